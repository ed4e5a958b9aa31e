-- A layer that keeps one number in a queue, and says so where the queue is full.
use Rattle.std.specs.Prelude.{◌≡◌, ℕ, List, [], ◌∷◌, codes, None}
use Rattle.msg_core.specs.Chain.{plain, pushed}
use Rattle.layer_words.specs.declared.events.Dir.{Dir}
use Rattle.layer_words.specs.declared.events.Dir.TheVariants.{Down}
use Rattle.layer_words.specs.declared.events.Kind.TheVariants.{Cast}
use Rattle.layer_words.specs.declared.operators.Operator.TheVariants.{Add}
use Rattle.layer_mean.specs.declared.run.Event.{Event}
use Rattle.layer_mean.specs.Tree.{number, local, element, binary, nothing, assign, emit, push, always, queue, LayerTree}
use Rattle.layer_mean.specs.State.{State}
use Rattle.layer_mean.specs.State as state
use Rattle.layer_mean.specs.Effect.{usual, unusual}
use Rattle.layer_mean.specs.Visit.{fresh, step}
use Rattle.layer_rows.specs.Words.{cast_of, cast_down, block, handler, cell_of_one, passing, ending, cast}

-- A layer whose queue has room for one number: a cast that finds it full sends a message of its own first.
abbrev pub keeper : LayerTree
keeper = record {
  name = codes "one";
  cells =
      cell_of_one (codes "s") 4294967295
      ∷ record { name = codes "q"; form = queue 1 (record { numbers = codes "x" ∷ []; message = None }) } ∷ [];
  headers = passing (codes "num") 1 ∷ ending (codes "full") 0 ∷ [];
  handlers = handler Down Cast 0 always (
      push 1 (number 0) 1 (record { numbers = element 0 (number 0) ∷ []; message = None })
      (block (emit (cast_of (local 0) nothing 2 []) ∷ []))
      ∷ assign 0 (number 0) (binary Add (element 0 (number 0)) (number 1))
      ∷ emit (cast_down (local 0) 1 (element 0 (number 0) ∷ [])) ∷ []
      ) ∷ [];
}

-- The state in which the number is s, and the queue holds the number that it began with.
abbrev pub holding : ℕ → State
holding s = record {
  me = 0;
  count = 1;
  ltime = 0;
  cells = state.numbers (s ∷ []) ∷ state.queues ((record { numbers = 4294967295 ∷ []; message = None } ∷ []) ∷ []) ∷ [];
}

-- A cast that is sent after the header of this tag.
abbrev pub sent_cast : ℕ → List ℕ → List ℕ → Dir × Event
sent_cast tag fields body = (Down, cast 0 (pushed (record { layer = 0; tag = tag; fields = fields }) (plain body)))

-- The first cast fills the queue, and its sum wraps; the second finds it full, which isn't predicted, and first sends
-- that.
abbrev pub TwoCasts : Type 0
TwoCasts =
    (step 0 keeper (fresh keeper 0 1 0) Down (cast 0 (plain (codes "a"))) ≡ record {
      state = holding 0;
      sent = sent_cast 1 (0 ∷ []) (codes "a") ∷ [];
      decided = usual ∷ [];
    })
    × (step 0 keeper (holding 0) Down (cast 0 (plain (codes "b"))) ≡ record {
      state = holding 1;
      sent = sent_cast 2 [] [] ∷ sent_cast 1 (1 ∷ []) (codes "b") ∷ [];
      decided = unusual ∷ [];
    })
