-- Stacks of several layers, whose casts bounce and split: the order of their outputs is that of the one list of tasks.
use Rattle.std.specs.Prelude.{◌≡◌, ℕ, true, List, [], ◌∷◌, codes, map}
use Rattle.msg_core.specs.Chain.{plain}
use Rattle.msg_core.specs.declared.message.Header.{Header}
use Rattle.layer_words.specs.declared.events.Dir.{Dir}
use Rattle.layer_words.specs.declared.events.Dir.TheVariants.{Up, Down}
use Rattle.layer_words.specs.declared.events.Kind.TheVariants.{Cast}
use Rattle.layer_words.specs.declared.sorts.Likely.TheVariants as likely
use Rattle.layer_words.specs.declared.operators.Operator.TheVariants.{Add, Equal}
use Rattle.layer_mean.specs.declared.run.Case.{Case}
use Rattle.layer_mean.specs.declared.run.Event.{Event}
use Rattle.layer_mean.specs.Tree.{number, me, local, element, binary, assign, emit, branch, always, common, LayerTree}
use Rattle.layer_mean.specs.Visit.{fresh}
use Rattle.layer_mean.specs.Queue.{Task, run, is_predicted}
use Rattle.layer_rows.specs.Words.{cast_down, cast_up, block, handler, cell_of_one, passing, cast}

-- The lowest layer: its header says 1, which is predicted.
abbrev pub bottom : LayerTree
bottom = record {
  name = codes "bottom";
  cells = [];
  headers = passing (codes "net") 1 ∷ [];
  handlers =
      handler Down Cast 0 always (emit (cast_down (local 0) 1 (number 1 ∷ [])) ∷ [])
      ∷ handler Up Cast 1 (common (binary Equal (local 1) (number 1))) (
      branch likely.First (binary Equal (local 1) (number 1)) (block (emit (cast_up (local 0)) ∷ [])) (block []) ∷ []
      ) ∷ [];
}

-- A layer that numbers its casts.
abbrev pub counting : LayerTree
counting = record {
  name = codes "mnak";
  cells = cell_of_one (codes "out") 0 ∷ [];
  headers = passing (codes "num") 1 ∷ [];
  handlers = handler Down Cast 0 always (
      emit (cast_down (local 0) 1 (element 0 (number 0) ∷ []))
      ∷ assign 0 (number 0) (binary Add (element 0 (number 0)) (number 1)) ∷ []
      ) ∷ [];
}

-- A layer that gives a member its own casts.
abbrev pub loopback : LayerTree
loopback = record {
  name = codes "local";
  cells = [];
  headers = [];
  handlers = handler Down Cast 0 always (emit (cast_down (local 0) 0 []) ∷ emit (cast_up me) ∷ []) ∷ [];
}

-- A layer that puts casts in one order, at the member of rank 0.
abbrev pub total : LayerTree
total = record {
  name = codes "total";
  cells = cell_of_one (codes "out") 0 ∷ cell_of_one (codes "next") 0 ∷ [];
  headers = passing (codes "num") 2 ∷ [];
  handlers =
      handler Down Cast 0 always (
      emit (cast_down (local 0) 1 (me ∷ element 0 (number 0) ∷ []))
      ∷ assign 0 (number 0) (binary Add (element 0 (number 0)) (number 1)) ∷ []
      )
      ∷ handler Up Cast 1 (common (binary Equal (local 2) (element 1 (number 0)))) (
      branch likely.First (binary Equal (local 2) (element 1 (number 0)))
      (block (assign 1 (number 0) (binary Add (element 1 (number 0)) (number 1)) ∷ emit (cast_up (local 1)) ∷ []))
      (block []) ∷ []
      ) ∷ [];
}

-- A cast of the application at the top of a stack of `places` places.
abbrev pub cast_at : ℕ → Task Event
cast_at places = record { at = places; dir = Down; event = cast 0 (plain (codes "a")) }

-- A header of a place.
abbrev pub header : ℕ → ℕ → List ℕ → Header
header place tag fields = record { layer = place; tag = tag; fields = fields }

-- Its delivery at home.
abbrev pub delivery : Dir × Event
delivery = (Up, cast 0 (plain (codes "a")))

-- Its packet, under these headers.
abbrev pub packet : List Header → Dir × Event
packet headers = (Down, cast 0 (record { headers = headers; body = codes "a" }))

-- The outputs of a cast at the member of rank 0 of 2, how many visits it took, and that it went as predicted in both
-- cases.
abbrev pub Casts : List LayerTree → ℕ → List (Dir × Event) → ℕ → Type 0
Casts stack places outs visits =
    let w = (run 65536 stack (map (λ layer. fresh layer 0 2 0) stack) (cast_at places)).world in
    (w.outs ≡ outs) × (w.visits ≡ visits) × ((case : Case) → is_predicted case w ≡ true)

-- With three places the packet leaves first, since it is as far from its edge as the delivery and was sent before it;
-- with four it comes later.
abbrev pub SplitCasts : Type 0
SplitCasts =
    Casts (bottom ∷ loopback ∷ total ∷ []) 3
    (packet (header 0 1 (1 ∷ []) ∷ header 1 0 [] ∷ header 2 1 (0 ∷ 0 ∷ []) ∷ []) ∷ delivery ∷ []) 4
    × Casts (bottom ∷ counting ∷ loopback ∷ total ∷ []) 4
    (delivery
    ∷ packet (header 0 1 (1 ∷ []) ∷ header 1 1 (0 ∷ []) ∷ header 2 0 [] ∷ header 3 1 (0 ∷ 0 ∷ []) ∷ []) ∷ []) 5
