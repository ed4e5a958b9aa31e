-- The first task of a step, with its message in a pool.
use Rattle.std.specs.Prelude.{◌≡◌, ℕ, ◌+◌, ◌≤◌, List, []}
use Rattle.slot_pool.specs.Held.{Held, spare}
use Rattle.slot_pool.specs.References.{Moved}
use Rattle.layer_mean.specs.Tree.{LayerTree}
use Rattle.pool_message.specs.Seen.{event_refs, EventLies}
use Rattle.run_mean.specs.Member.{Entered, first_task}
use Rattle.stack_queue.specs.Pending.{task_seen}
use Rattle.stack_queue.specs.declared.tasks.PoolTask.{PoolTask}

-- The task is that of what entered; its body, if it has one, is in a slot that was unused.
pub record Brings (stack : List LayerTree) (me : ℕ) (p q : List Held) (what : Entered) (task : PoolTask) : Type 0 where
  pub seen : task_seen q task ≡ first_task stack me what
  pub moved : Moved p q [] (event_refs task.event)
  pub lies : EventLies q task.event
  pub slots : spare p ≤ spare q + 1
