-- An event that passes one layer while others are pending.
use Rattle.std.specs.Prelude.{◌≡◌, ℕ, Bool, true, false, List, [], ◌∷◌, ◌++◌, drop}
use Rattle.circular_buffer.specs.Buffer.{Buffer, buffer}
use Rattle.slot_pool.specs.Held.{Held}
use Rattle.layer_words.specs.declared.events.Dir.{Dir}
use Rattle.layer_mean.specs.State.{State}
use Rattle.layer_mean.specs.Tree.{LayerTree}
use Rattle.layer_mean.specs.Queue.{beyond}
use Rattle.layer_stage.specs.Passes.{is_passed, passed_by}
use Rattle.layer_stage.specs.Taken.{one_more}
use Rattle.pool_message.specs.Seen.{event_seen}
use Rattle.pool_message.specs.declared.event.PoolEvent.{PoolEvent}
use Rattle.stack_queue.specs.declared.tasks.PoolTask.{PoolTask}
use Rattle.stack_queue.specs.Pending.{first_task}

-- A stage that lets an event pass took one more event, and is else as it was.
pub record HasPassed {S : Type 0} (place : S → ℕ) (layer : S → LayerTree) (refs : S → List ℕ)
    (Ready : List Held → S → Type 0)
    (state : List Held → S → State) (taken : S → ℕ) (s : S) (sent : Dir × PoolEvent) (s' : S) (after : Dir × PoolEvent)
    : Type 0 where
  pub passes : (p : List Held) → is_passed (layer s) sent.0 (event_seen p sent.1) ≡ true
  pub event : after ≡ (sent.0, passed_by (place s) sent.0 sent.1)
  pub same_refs : refs s' ≡ refs s
  pub still : (p : List Held) → Ready p s → Ready p s'
  pub same_state : (p : List Held) → state p s' ≡ state p s
  pub same_place : place s' ≡ place s
  pub same_layer : layer s' ≡ layer s
  pub one_taken : taken s' ≡ one_more (taken s)

-- The stage let the event pass, or nothing has changed.
abbrev pub Passes : {S : Type 0} (place : S → ℕ) (layer : S → LayerTree) (refs : S → List ℕ)
    (Ready : List Held → S → Type 0)
    (state : List Held → S → State) (taken : S → ℕ) (s : S) (sent : Dir × PoolEvent) (s' : S)
    (after : Dir × PoolEvent) → Bool → Type 0
Passes place layer refs Ready state taken s sent s' after true = HasPassed place layer refs Ready state taken s sent s'
    after
Passes place layer refs Ready state taken s sent s' after false = (s' ≡ s) × (after ≡ sent)

abbrev pub sent_by : PoolTask → Dir × PoolEvent
sent_by t = (t.direction, t.event)

-- The first of some tasks passed a stage, and is the last of them, at its neighbour.
pub record HasGoneRound {S : Type 0} (place : S → ℕ) (layer : S → LayerTree) (refs : S → List ℕ)
    (Ready : List Held → S → Type 0)
    (state : List Held → S → State) (taken : S → ℕ) (s : S) (tasks : Buffer PoolTask) (s' : S) (after : Buffer PoolTask)
    : Type 0 where
  pub task : PoolTask
  pub passed : HasPassed place layer refs Ready state taken s (sent_by (first_task tasks.items)) s' (sent_by task)
  pub to : task.at ≡ beyond (first_task tasks.items).direction (first_task tasks.items).at
  pub round : after ≡ buffer (drop 1 tasks.items ++ task ∷ []) tasks.capacity

-- The first task did so, or nothing has changed.
abbrev pub PassesRound : {S : Type 0} (place : S → ℕ) (layer : S → LayerTree) (refs : S → List ℕ)
    (Ready : List Held → S → Type 0)
    (state : List Held → S → State) (taken : S → ℕ) (s : S) (tasks : Buffer PoolTask) (s' : S)
    (after : Buffer PoolTask) → Bool → Type 0
PassesRound place layer refs Ready state taken s tasks s' after true =
    HasGoneRound place layer refs Ready state taken s tasks s' after
PassesRound place layer refs Ready state taken s tasks s' after false = (s' ≡ s) × (after ≡ tasks)
