-- A layer that has no handler for an event, in each of its four cases; and loops.
use Rattle.std.specs.Prelude.{◌≡◌, ℕ, [], ◌∷◌, codes}
use Rattle.msg_core.specs.Chain.{plain, pushed}
use Rattle.layer_words.specs.declared.events.Dir.TheVariants.{Up, Down}
use Rattle.layer_words.specs.declared.events.Kind.TheVariants.{Cast, Ack}
use Rattle.layer_words.specs.declared.operators.Operator.TheVariants.{Add}
use Rattle.layer_mean.specs.Tree.{number, local, element, binary, assign, emit, each, always, LayerTree}
use Rattle.layer_mean.specs.State.{State}
use Rattle.layer_mean.specs.State as state
use Rattle.layer_mean.specs.Effect.{unusual}
use Rattle.layer_mean.specs.Visit.{step, no_state}
use Rattle.layer_rows.specs.Words.{cast_up, block, handler, cell_of_one, ending, cast, signal}

-- A layer without handlers, which declares a header.
abbrev pub idle : LayerTree
idle = record { name = codes "idle"; cells = []; headers = ending (codes "h") 1 ∷ []; handlers = [] }

-- An event without a message passes unchanged; going down a message passes after `none`; going up it passes where
-- `none` was popped, and is dropped after another header, which isn't predicted.
abbrev pub Unhandled : Type 0
Unhandled =
    (step 4 idle no_state Up (signal Ack 2 3) ≡
    record { state = no_state; sent = (Up, signal Ack 2 3) ∷ []; decided = [] })
    × (step 4 idle no_state Down (cast 1 (plain (codes "a"))) ≡ record {
      state = no_state;
      sent = (Down, cast 1 (pushed (record { layer = 4; tag = 0; fields = [] }) (plain (codes "a")))) ∷ [];
      decided = [];
    })
    × (step 4 idle no_state Up (cast 1 (pushed (record { layer = 4; tag = 0; fields = [] }) (plain (codes "a")))) ≡
    record {
      state = no_state;
      sent = (Up, cast 1 (plain (codes "a"))) ∷ [];
      decided = [];
    })
    × (step 4 idle no_state Up (cast 1 (pushed (record { layer = 4; tag = 1; fields = 9 ∷ [] }) (plain (codes "a")))) ≡
    record {
      state = no_state;
      sent = [];
      decided = unusual ∷ [];
    })

-- A layer that adds the turns of a loop up and passes a cast on in each.
abbrev pub looping : ℕ → LayerTree
looping below = record {
  name = codes "loop";
  cells = cell_of_one (codes "s") 0 ∷ [];
  headers = [];
  handlers = record (handler Up Cast 0 always (
      each 1 (number below) 3 (block (
      assign 0 (number 0) (binary Add (element 0 (number 0)) (local 1)) ∷ emit (cast_up (local 1)) ∷ []
      )) ∷ []
      )) { numbers = 1 } ∷ [];
}

-- The state of that layer at the one member of a group.
abbrev pub counter_state : ℕ → State
counter_state s = record { me = 0; count = 1; ltime = 0; cells = state.numbers (s ∷ []) ∷ [] }

-- A loop ends at its bound or at its maximum, and counts as met also where it runs no turn.
abbrev pub Loops : Type 0
Loops =
    (step 0 (looping 9) (counter_state 0) Up (cast 7 (plain [])) ≡ record {
      state = counter_state 3;
      sent = (Up, cast 0 (plain [])) ∷ (Up, cast 1 (plain [])) ∷ (Up, cast 2 (plain [])) ∷ [];
      decided = unusual ∷ [];
    })
    × (step 0 (looping 0) (counter_state 0) Up (cast 7 (plain [])) ≡
    record { state = counter_state 0; sent = []; decided = unusual ∷ [] })
