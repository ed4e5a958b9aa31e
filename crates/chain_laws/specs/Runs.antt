-- Runs of a typed stack keep chains.
use Rattle.std.specs.Prelude.{◌≡◌, ℕ, suc, ◌+◌, ◌-◌, ◌<◌, ◌≤◌, List, [], ◌∷◌, length, slice_index_or}
use Rattle.std.specs.List.{AllByRecursion}
use Rattle.msg_core.specs.declared.message.Header.{Header}
use Rattle.layer_words.specs.declared.events.Dir.{Dir}
use Rattle.layer_words.specs.declared.events.Dir.TheVariants.{Up, Down}
use Rattle.layer_mean.specs.declared.run.Event.{Event}
use Rattle.layer_mean.specs.Tree.{LayerTree}
use Rattle.layer_mean.specs.State.{State}
use Rattle.layer_mean.specs.Visit.{none_header, no_state}
use Rattle.layer_mean.specs.Queue.{Task, Line, Work, layers, next, run_for, run}
use Rattle.packet_mean.specs.ChainedState.{IsFrom, IsEvent, IsChainedState}
use Rattle.chain_laws.specs.Typed.{TypedLayer}

-- The header `none` of each of these layers, the first of which stands at a place.
abbrev pub blanks : ℕ → List LayerTree → List Header
blanks place [] = []
blanks place (layer ∷ above) = none_header place ∷ blanks (suc place) above

-- The layers from a place on are typed, each with the blank headers of those above it; and so is a stack.
abbrev pub TypedLayers : ℕ → List LayerTree → Type 0
TypedLayers place [] = Unit {0}
TypedLayers place (layer ∷ above) = TypedLayer (blanks (suc place) above) layer × TypedLayers (suc place) above

abbrev pub TypedStack : List LayerTree → Type 0
TypedStack stack = TypedLayers 0 stack

-- The states of a member's layers are chained, each at its place.
pub record AreChainedStates (stack : List LayerTree) (states : List State) : Type 0 where
  pub count : length states ≡ length stack
  pub states_are : (place : ℕ) → place < length stack →
      IsChainedState stack place (slice_index_or states place no_state)

-- Where a task may stand: going up at a place or at the upper edge, going down at a place or at the lower one.
abbrev pub IsOnItsWay : List LayerTree → Dir → ℕ → Type 0
IsOnItsWay stack Up at = (1 ≤ at) × (at ≤ length stack + 1)
IsOnItsWay stack Down at = at ≤ length stack

-- The place from which the message of a task comes: going up it has the header of the place that it goes to, the first
-- of which is 1.
abbrev pub task_place : Dir → ℕ → ℕ
task_place Up at = at - 1
task_place Down at = at

pub record IsChainedTask (stack : List LayerTree) (t : Task Event) : Type 0 where
  pub way : IsOnItsWay stack t.dir t.at
  pub event : IsEvent (IsFrom stack (task_place t.dir t.at)) t.event

-- What leaves the stack: at the lower edge with the headers of all layers, at the upper one with none.
abbrev pub edge_place : List LayerTree → Dir → ℕ
edge_place stack Up = length stack
edge_place stack Down = 0

abbrev pub IsChainedOut : List LayerTree → Dir × Event → Type 0
IsChainedOut stack x = IsEvent (IsFrom stack (edge_place stack x.0)) x.1

-- The states, what came out and the pending tasks of a run are chained.
pub record IsChainedLine (stack : List LayerTree) (r : Line Work Event) : Type 0 where
  pub states : AreChainedStates stack r.world.states
  pub outs : AllByRecursion (IsChainedOut stack) r.world.outs
  pub tasks : AllByRecursion (IsChainedTask stack) r.tasks

-- One turn keeps them so, and any number of turns.
abbrev pub TurnsKeepChains : Type 0
TurnsKeepChains = (stack : List LayerTree) (r : Line Work Event) → TypedStack stack → IsChainedLine stack r →
    IsChainedLine stack (next (length stack) (layers stack) r)

abbrev pub RunsKeepChains : Type 0
RunsKeepChains = (stack : List LayerTree) (turns : ℕ) (r : Line Work Event) → TypedStack stack → IsChainedLine stack r →
    IsChainedLine stack (run_for (length stack) (layers stack) turns r)

-- So a run from chained states and a chained task leaves chained states and outputs.
abbrev pub RunFromATask : Type 0
RunFromATask = (stack : List LayerTree) (most : ℕ) (states : List State) (first : Task Event) → TypedStack stack →
    AreChainedStates stack states → IsChainedTask stack first → IsChainedLine stack (run most stack states first)

-- A chain from a place has at most one header for each layer from there on.
abbrev pub ChainsAreShort : Type 0
ChainsAreShort = (stack : List LayerTree) (place : ℕ) (headers : List Header) → IsFrom stack place headers →
    length headers ≤ length stack - place
