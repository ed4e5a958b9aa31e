-- Pending tasks: what they refer to, and what is seen of them in a pool.
use Rattle.std.specs.Prelude.{ℕ, List, [], ◌∷◌, map}
use Rattle.std.specs.List.{flat_map, AllByRecursion}
use Rattle.slot_pool.specs.Held.{Held}
use Rattle.layer_words.specs.declared.events.Dir.{Dir}
use Rattle.layer_mean.specs.declared.run.Event.{Event}
use Rattle.layer_mean.specs.Queue.{Task, beyond}
use Rattle.pool_message.specs.Seen.{event_refs, event_seen, EventLies}
use Rattle.pool_message.specs.Sent.{first_sent}
use Rattle.pool_message.specs.declared.event.PoolEvent.{PoolEvent}
use Rattle.stack_queue.specs.declared.tasks.PoolTask.{PoolTask}

abbrev pub task_seen : List Held → PoolTask → Task Event
task_seen p t = record { at = t.at; dir = t.direction; event = event_seen p t.event }

abbrev pub tasks_seen : List Held → List PoolTask → List (Task Event)
tasks_seen p ts = map (task_seen p) ts

abbrev pub tasks_refs : List PoolTask → List ℕ
tasks_refs ts = flat_map (λ t. event_refs t.event) ts

-- Each lies in the pool.
abbrev pub TasksLie : List Held → List PoolTask → Type 0
TasksLie p ts = AllByRecursion (λ t. EventLies p t.event) ts

-- The first of the tasks; where there is none, one that stands at the lower edge.
abbrev pub first_task : List PoolTask → PoolTask
first_task [] = record { at = 0; direction = (first_sent []).0; event = (first_sent []).1 }
first_task (t ∷ ts) = t

-- The tasks of events, the first of which stands at the first of some places, and so on.
abbrev pub tasks_at : List ℕ → List (Dir × PoolEvent) → List PoolTask
tasks_at [] xs = []
tasks_at (at ∷ places) [] = []
tasks_at (at ∷ places) (x ∷ xs) = record { at = at; direction = x.0; event = x.1 } ∷ tasks_at places xs

-- Where each event that was sent from a place goes.
abbrev pub places_on : ℕ → List (Dir × PoolEvent) → List ℕ
places_on at xs = map (λ x. beyond x.0 at) xs
