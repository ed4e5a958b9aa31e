-- A run that goes on: how what it has now follows from what it had when it began.
use Rattle.std.specs.Prelude.{◌≡◌, ℕ, ◌+◌, ◌≤◌, List, ◌++◌, length, None}
use Rattle.slot_pool.specs.Held.{Held, spare}
use Rattle.slot_pool.specs.References.{Moved, Covers}
use Rattle.layer_words.specs.declared.events.Dir.{Dir}
use Rattle.layer_mean.specs.declared.run.Event.{Event}
use Rattle.layer_mean.specs.State.{State}
use Rattle.layer_mean.specs.Tree.{LayerTree}
use Rattle.layer_mean.specs.Queue.{Task, Line, Work, layers, run_for, run}
use Rattle.stack_mean.specs.Acceptance.{weight_limit}
use Rattle.stack_mean.specs.Graph.{first_on_cycle}
use Rattle.weight_laws.specs.Visits.{task_weight, task_joins}
use Rattle.weight_laws.specs.Runs.{pending_weight, pending_joins}
use Rattle.chain_laws.specs.Runs.{TypedStack, IsChainedLine}
use Rattle.msg_core.specs.Headers.{most_places}
use Rattle.layer_stage.specs.Room.{CountsWithin}
use Rattle.layer_eval.specs.declared.predicted.Predicted.{Predicted}
use Rattle.layer_eval.specs.Did.{as_predicted}
use Rattle.pool_message.specs.Sent.{sent_refs, sent_seen, SentLie}
use Rattle.pool_message.specs.declared.event.PoolEvent.{PoolEvent}
use Rattle.stack_queue.specs.declared.tasks.PoolTask.{PoolTask}
use Rattle.stack_queue.specs.Pending.{tasks_seen, tasks_refs, TasksLie}
use Rattle.stack_queue.specs.Stages.{most_at_first}
use Rattle.stack_queue.specs.Taken.{visited_for, counted_on, taken_after}

-- How a run began: its stack, the pool, the states of the layers, the first task, the references of the stages and of
-- that task, what had come out before, how many visits there had been, and how many events each layer had taken.
pub record Begun : Type 0 where
  pub stack : List LayerTree
  pub pool : List Held
  pub states : List State
  pub first : Task Event
  pub refs : List ℕ
  pub out : List (Dir × PoolEvent)
  pub visits : ℕ
  pub taken : List ℕ

-- What a run shows: the states of the layers and the references of the stages, the pending tasks, what came out, how
-- the decisions went, how many visits there were, and how many events each layer took.
pub record Now : Type 0 where
  pub states : List State
  pub refs : List ℕ
  pub tasks : List PoolTask
  pub out : List (Dir × PoolEvent)
  pub predicted : Predicted
  pub visits : ℕ
  pub taken : List ℕ

-- The references that a run has now.
abbrev pub all_refs : Now → List ℕ
all_refs n = n.refs ++ (tasks_refs n.tasks ++ sent_refs n.out)

-- The line of the definition's queue that it shows.
abbrev pub line_of : Work → List Held → List PoolTask → Line Work Event
line_of w p tasks = record { world = w; tasks = tasks_seen p tasks }

abbrev pub weight_of : Begun → List Held → List PoolTask → ℕ
weight_of b p tasks = pending_weight b.stack (tasks_seen p tasks)

abbrev pub joins_of : Begun → List Held → List PoolTask → ℕ
joins_of b p tasks = pending_joins b.stack (tasks_seen p tasks)

-- A run begins well: its stack is typed, has no cycle and at most 24 places; the first task's weight is within the
-- limit; there are as many unused slots as its join count, and no slot has too many references.
pub record BeginsWell (b : Begun) : Type 0 where
  pub typed : TypedStack b.stack
  pub no_cycle : first_on_cycle b.stack ≡ None
  pub few : length b.stack ≤ most_places
  pub weight : task_weight b.stack b.first ≤ weight_limit
  pub joins : task_joins b.stack b.first ≤ spare b.pool
  pub counts : CountsWithin most_at_first b.pool

-- The run goes on in a pool. What it shows is a line of the definition's queue, from which the run that began reaches
-- its end; the visits from there on, added to what the layers have taken, yield what they have taken at that end. The
-- pending weights and join counts are left of those of the first task.
pub record Going (b : Begun) (p : List Held) (n : Now) : Type 0 where
  pub world : Work
  pub left : ℕ
  pub comes : run_for (length b.stack) (layers b.stack) left (line_of world p n.tasks) ≡
      run weight_limit b.stack b.states b.first
  pub counts : counted_on (visited_for (length b.stack) (layers b.stack) left (line_of world p n.tasks)) n.taken ≡
      taken_after b.stack b.states b.first b.taken
  pub enough : weight_of b p n.tasks ≤ left
  pub chained : IsChainedLine b.stack (line_of world p n.tasks)
  pub states : world.states ≡ n.states
  pub outs : sent_seen p n.out ≡ sent_seen b.pool b.out ++ world.outs
  pub news : List (Dir × PoolEvent)
  pub following : n.out ≡ b.out ++ news
  pub predicted : n.predicted ≡ as_predicted world.decided
  pub visits : n.visits ≡ b.visits + world.visits
  pub weight : world.visits + length news + weight_of b p n.tasks ≤ task_weight b.stack b.first
  pub slots : spare b.pool + joins_of b p n.tasks ≤ spare p + task_joins b.stack b.first
  pub moved : Moved b.pool p (b.refs ++ sent_refs b.out) (all_refs n)
  pub covers : Covers p (all_refs n)
  pub tasks_lie : TasksLie p n.tasks
  pub out_lies : SentLie p n.out
