-- A task is put where its event is put, and its place after the other places.
use Rattle.std.proofs.Common.{◌-◌, ◌≡◌, ℕ, List, [], ◌∷◌, ◌++◌, length, ap, ◌∙◌, Some}
use Rattle.circular_buffer.specs.Buffer.{Buffer, buffer}
use Rattle.slot_pool.specs.Held.{Held}
use Rattle.msg_core.specs.Chain.{Content}
use Rattle.layer_words.specs.declared.events.Dir.{Dir}
use Rattle.pool_message.specs.Put as events
use Rattle.pool_message.specs.Sent.{pool_event}
use Rattle.pool_message.specs.declared.event.PoolEvent.{PoolEvent}
use Rattle.stack_queue.specs.Pending.{tasks_at}
use Rattle.stack_queue.specs.Put.{carrying_task, task_with, PutLast}
use Rattle.stack_queue.specs.declared.tasks.BareTask.{BareTask}
use Rattle.stack_queue.specs.declared.tasks.PoolTask.{PoolTask}
use Rattle.stack_queue.proofs.Lists.{pushed}

pub task_put : (p q : List Held) (old new : Buffer (Dir × PoolEvent)) (task : BareTask) (content : Content)
    (places now : Buffer ℕ) (tasks : Buffer PoolTask) → length places.items ≡ length old.items →
    buffer (tasks_at places.items old.items) (places.capacity - 1) ≡ tasks →
    events.PutLast p old task.direction task.envelope content q new →
    now ≡ buffer (places.items ++ task.at ∷ []) places.capacity →
    PutLast p tasks (carrying_task task content) q (buffer (tasks_at now.items new.items) (now.capacity - 1))
task_put p q old new task content places now tasks same view put placed = record {
  task = task_with task (Some put.message);
  last = (λ k. buffer (tasks_at (placed k).items (put.last k).items) ((placed k).capacity - 1))
      ∙ ap (λ ts. buffer ts (places.capacity - 1))
      (pushed places.items old.items task.at task.direction (pool_event task.envelope (Some put.message)) same)
      ∙ ap (λ b. buffer (b.items ++ task_with task (Some put.message) ∷ []) b.capacity) view;
  seen = ap (carrying_task task) put.made.shows;
  moved = put.made.moved;
  lies = put.made.lies;
  slots = put.made.slots;
  room = put.room;
}
