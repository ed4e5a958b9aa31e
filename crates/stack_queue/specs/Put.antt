-- A task with a message that is put after others.
use Rattle.std.specs.Prelude.{◌≡◌, ◌+◌, ◌≤◌, Bool, true, false, [], ◌∷◌, ◌++◌, List, Option, Some}
use Rattle.circular_buffer.specs.Buffer.{Buffer, buffer}
use Rattle.slot_pool.specs.Held.{Held, IsFull, spare}
use Rattle.slot_pool.specs.References.{Moved}
use Rattle.msg_core.specs.Chain.{Content}
use Rattle.layer_mean.specs.Envelope.{event_in}
use Rattle.layer_mean.specs.declared.run.Event.{Event}
use Rattle.layer_mean.specs.Queue.{Task}
use Rattle.pool_message.specs.Seen.{event_refs, EventLies}
use Rattle.pool_message.specs.Sent.{pool_event}
use Rattle.pool_message.specs.declared.message.PoolMessage.{PoolMessage}
use Rattle.stack_queue.specs.Pending.{task_seen}
use Rattle.stack_queue.specs.declared.tasks.BareTask.{BareTask}
use Rattle.stack_queue.specs.declared.tasks.PoolTask.{PoolTask}

-- A task of which all but its message is known, with a message, if it has one; and such a task as it is shown.
abbrev pub task_with : BareTask → Option PoolMessage → PoolTask
task_with t message = record { at = t.at; direction = t.direction; event = pool_event t.envelope message }

abbrev pub carrying_task : BareTask → Content → Task Event
carrying_task t content = record { at = t.at; dir = t.direction; event = event_in t.envelope (Some content) }

-- In a pool that wasn't full a task that shows this was made, with its body in one more slot, and it is the last.
pub record PutLast (p : List Held) (old : Buffer PoolTask) (shown : Task Event) (q : List Held) (new : Buffer PoolTask)
    : Type 0 where
  pub task : PoolTask
  pub last : new ≡ buffer (old.items ++ task ∷ []) old.capacity
  pub seen : task_seen q task ≡ shown
  pub moved : Moved p q [] (event_refs task.event)
  pub lies : EventLies q task.event
  pub slots : spare p ≤ spare q + 1
  pub room : IsFull p → ⊥

-- Such a task was put; or the pool is full, and nothing has changed.
abbrev pub Puts : List Held → Buffer PoolTask → Task Event → List Held → Buffer PoolTask → Bool → Type 0
Puts p old shown q new true = PutLast p old shown q new
Puts p old shown q new false = IsFull p × (q ≡ p) × (new ≡ old)
