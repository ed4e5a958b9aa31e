-- The counter layer: each cast carries the sender's count `k`, and `e` has the number that is due from each member.
use Rattle.std.specs.Prelude.{◌≡◌, ℕ, List, [], ◌∷◌, codes, Some}
use Rattle.msg_core.specs.Chain.{Content, plain}
use Rattle.layer_words.specs.declared.events.Dir.{Dir}
use Rattle.layer_words.specs.declared.events.Dir.TheVariants.{Up, Down}
use Rattle.layer_words.specs.declared.events.Kind.TheVariants.{Cast}
use Rattle.layer_words.specs.declared.operators.Operator.TheVariants.{Add, Equal}
use Rattle.layer_words.specs.declared.sorts.Shape.TheVariants.{Array}
use Rattle.layer_mean.specs.declared.run.Event.{Event}
use Rattle.layer_mean.specs.Tree.{number, local, element, binary, assign, emit, always, common, numbers, LayerTree}
use Rattle.layer_mean.specs.State.{State}
use Rattle.layer_mean.specs.State as state
use Rattle.layer_mean.specs.Effect.{usual, unusual}
use Rattle.layer_mean.specs.Visit.{fresh}
use Rattle.layer_mean.specs.Queue.{Task, run}
use Rattle.layer_rows.specs.Words.{cast_down, cast_up, handler, cell_of_one, passing}

-- The counter layer: it numbers casts, and expects those of a peer in order.
abbrev pub counter : LayerTree
counter = record {
  name = codes "cnt";
  cells = cell_of_one (codes "k") 0 ∷ record { name = codes "e"; form = numbers Array (number 0) } ∷ [];
  headers = passing (codes "num") 1 ∷ [];
  handlers =
      handler Down Cast 0 always (
      emit (cast_down (local 0) 1 (element 0 (number 0) ∷ []))
      ∷ assign 0 (number 0) (binary Add (element 0 (number 0)) (number 1)) ∷ []
      )
      ∷ handler Up Cast 1 (common (binary Equal (local 1) (element 1 (local 0)))) (
      assign 1 (local 0) (binary Add (local 1) (number 1)) ∷ emit (cast_up (local 0)) ∷ []
      ) ∷ [];
}

-- A message after the counter's header with this number.
abbrev pub numbered_content : ℕ → List ℕ → Content
numbered_content seq body = record { headers = record { layer = 0; tag = 1; fields = seq ∷ [] } ∷ []; body = body }

-- A packet of the member of rank 0 at the lowest place.
abbrev pub given_task : ℕ → Task Event
given_task seq = record {
  at = 1;
  dir = Up;
  event = record { kind = Cast; peer = 0; a = 0; b = 0; message = Some (numbered_content seq (codes "hi")) };
}

-- What the application gets.
abbrev pub delivered : Dir × Event
delivered = (Up, record { kind = Cast; peer = 0; a = 0; b = 0; message = Some (plain (codes "hi")) })

-- The state of the counter at the member of rank 1 of 3, with what is due from each member.
abbrev pub due : List ℕ → State
due from = record { me = 1; count = 3; ltime = 0; cells = state.numbers (0 ∷ []) ∷ state.numbers from ∷ [] }

-- The packet with number 0, given twice: the first goes as predicted, the second doesn't, and both are delivered.
abbrev pub GivenTwice : Type 0
GivenTwice =
    (run 65536 (counter ∷ []) (fresh counter 1 3 0 ∷ []) (given_task 0) ≡ record {
      world = record { states = due (1 ∷ 0 ∷ 0 ∷ []) ∷ []; outs = delivered ∷ []; decided = usual ∷ []; visits = 1 };
      tasks = [];
    })
    × (run 65536 (counter ∷ []) (due (1 ∷ 0 ∷ 0 ∷ []) ∷ []) (given_task 0) ≡ record {
      world = record { states = due (1 ∷ 0 ∷ 0 ∷ []) ∷ []; outs = delivered ∷ []; decided = unusual ∷ []; visits = 1 };
      tasks = [];
    })
