-- What a visit sends follows the arrows of its node.
use Rattle.std.specs.Prelude.{◌≡◌, ℕ, ◌+◌, ◌-◌, ◌≤◌, true, List, length, None}
use Rattle.std.specs.List.{sum_by, AllByRecursion}
use Rattle.layer_mean.specs.declared.run.Event.{Event}
use Rattle.layer_mean.specs.Tree.{LayerTree}
use Rattle.layer_mean.specs.State.{State}
use Rattle.layer_mean.specs.Visit.{step}
use Rattle.layer_mean.specs.Queue.{Task, is_place, layer_at, tasks_of}
use Rattle.stack_mean.specs.Graph.{Node, arrows, first_on_cycle}
use Rattle.stack_mean.specs.Acceptance.{weight, most_joins}
use Rattle.weight_laws.specs.Nodes.{task_node, IsKnown}
use Rattle.weight_laws.specs.Orderly.{IsOrderly}
use Rattle.weight_laws.specs.Costs.{after_arrows}
use Rattle.weight_laws.specs.Made.{visit_joins}

-- The tasks that the visit of a task at a place leaves, in this state of its layer.
abbrev pub sent_tasks : List LayerTree → State → Task Event → List (Task Event)
sent_tasks stack s t = tasks_of t.at (step (t.at - 1) (layer_at stack t.at) s t.dir t.event).sent

-- The weight of a task, and its join count, are those of its node.
abbrev pub task_weight : List LayerTree → Task Event → ℕ
task_weight stack t = weight stack (task_node t)

abbrev pub task_joins : List LayerTree → Task Event → ℕ
task_joins stack t = most_joins stack (task_node t)

-- A known task is at a place of an orderly stack, and what its visit sends is known.
pub record IsVisit (stack : List LayerTree) (s : State) (t : Task Event) : Type 0 where
  pub orderly : IsOrderly stack
  pub place : is_place (length stack) t.at ≡ true
  pub known : IsKnown stack t
  pub sent : AllByRecursion (IsKnown stack) (sent_tasks stack s t)

-- However nodes are rated, what a visit sends adds up to no more than the arrows of its node allow, whatever way it
-- goes.
abbrev pub SendsFollowArrows : Type 0
SendsFollowArrows = (stack : List LayerTree) (s : State) (t : Task Event) (f : Node → ℕ) → IsVisit stack s t →
    sum_by (λ x. f (task_node x)) (sent_tasks stack s t) ≤ after_arrows f (arrows stack (task_node t))

-- So the weight of a node is at least 1 and the weights of what its visit sends.
abbrev pub WeighsWhatItSends : Type 0
WeighsWhatItSends = (stack : List LayerTree) (s : State) (t : Task Event) → first_on_cycle stack ≡ None →
    IsVisit stack s t →
    1 + sum_by (task_weight stack) (sent_tasks stack s t) ≤ task_weight stack t

-- And its join count is at least the joins that its visit makes and the join counts of what it sends.
abbrev pub CountsWhatItJoins : Type 0
CountsWhatItJoins = (stack : List LayerTree) (s : State) (t : Task Event) → first_on_cycle stack ≡ None →
    IsVisit stack s t →
    visit_joins (t.at - 1) (layer_at stack t.at) s t.dir t.event + sum_by (task_joins stack) (sent_tasks stack s t) ≤
    task_joins stack t
