-- The room that is made for a stack is enough for each of its runs, and no more than there may be.
use Rattle.std.specs.Prelude.{◌≡◌, ◌<◌, ◌≤◌, List, Ok}
use Rattle.layer_mean.specs.declared.run.Event.{Event}
use Rattle.layer_mean.specs.Tree.{LayerTree}
use Rattle.layer_mean.specs.Queue.{Task}
use Rattle.stack_mean.specs.Acceptance.{largest_weight, largest_joins, acceptance}
use Rattle.weight_laws.specs.Visits.{task_weight, task_joins}
use Rattle.weight_laws.specs.Runs.{Enters}
use Rattle.chain_laws.specs.Runs.{IsChainedTask}
use Rattle.pool_message.specs.Sent.{most_sent}

-- A task with which a run begins weighs no more than its stack, and joins no more than the stack's entries do at most.
pub record FitsStack (stack : List LayerTree) (first : Task Event) : Type 0 where
  pub weight : task_weight stack first ≤ largest_weight stack
  pub joins : task_joins stack first ≤ largest_joins stack

abbrev pub EntriesFit : Type 0
EntriesFit = (stack : List LayerTree) (first : Task Event) → IsChainedTask stack first →
    Enters stack first.at first.dir first.event.kind → FitsStack stack first

-- A stack that is accepted weighs less than the most events that a list may have.
abbrev pub StacksFit : Type 0
StacksFit = (stack : List LayerTree) → acceptance stack ≡ Ok stack → largest_weight stack < most_sent
