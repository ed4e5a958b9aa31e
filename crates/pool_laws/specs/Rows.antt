-- How many rows with messages a member's layers keep.
use Rattle.std.specs.Prelude.{◌≡◌, ℕ, ◌≤◌, List, map}
use Rattle.std.specs.List.{sum_by, AllByRecursion}
use Rattle.layer_mean.specs.declared.run.Event.{Event}
use Rattle.layer_mean.specs.Tree.{LayerTree}
use Rattle.layer_mean.specs.State.{State}
use Rattle.layer_mean.specs.Visit.{fresh}
use Rattle.layer_mean.specs.Queue.{Task, run}
use Rattle.stack_mean.specs.Acceptance.{rows_of}
use Rattle.chain_laws.specs.Runs.{AreChainedStates}
use Rattle.layer_stage.specs.Kept.{messages_kept}

-- States of a member whose view has at most n members.
pub record AreWithin (most : ℕ) (states : List State) : Type 0 where
  pub within : AllByRecursion (λ s. s.count ≤ most) states

-- The layers of a stack keep at most as many rows with messages as the stack says of a view of n members.
abbrev pub StatesKeepRows : Type 0
StatesKeepRows = (stack : List LayerTree) (states : List State) (most : ℕ) → AreChainedStates stack states →
    AreWithin most states →
    sum_by messages_kept states ≤ rows_of stack most

-- The states with which a member comes into a view are of as many members as the view has.
abbrev pub FreshAreWithin : Type 0
FreshAreWithin = (stack : List LayerTree) (me count ltime most : ℕ) → count ≤ most →
    AreWithin most (map (λ layer. fresh layer me count ltime) stack)

-- A run reads how many members there are, and never changes it.
abbrev pub RunsKeepCounts : Type 0
RunsKeepCounts = (turns : ℕ) (stack : List LayerTree) (states : List State) (first : Task Event) (n : ℕ) →
    AllByRecursion (λ s. s.count ≡ n) states →
    AllByRecursion (λ s. s.count ≡ n) (run turns stack states first).world.states

abbrev pub RunsStayWithin : Type 0
RunsStayWithin = (turns : ℕ) (stack : List LayerTree) (states : List State) (first : Task Event) (most : ℕ) →
    AreWithin most states →
    AreWithin most (run turns stack states first).world.states
