-- A run that goes on, as it is seen from its stages and its tasks alone.
use Rattle.std.specs.Prelude.{◌≡◌, ℕ, suc, ◌-◌, ◌≤◌, ◌^◌, true, false, List, map, length}
use Rattle.std.specs.List.{flat_map}
use Rattle.slot_pool.specs.Held.{Held}
use Rattle.layer_words.specs.declared.events.Dir.{Dir}
use Rattle.layer_words.specs.declared.events.Dir.TheVariants.{Up, Down}
use Rattle.layer_mean.specs.State.{State}
use Rattle.layer_mean.specs.Tree.{LayerTree}
use Rattle.layer_mean.specs.Queue.{is_place, layer_at}
use Rattle.layer_eval.specs.declared.predicted.Predicted.{Predicted}
use Rattle.layer_stage.specs.Passes.{is_passed}
use Rattle.pool_message.specs.Seen.{event_seen}
use Rattle.pool_message.specs.declared.event.PoolEvent.{PoolEvent}
use Rattle.stack_queue.specs.declared.tasks.PoolTask.{PoolTask}
use Rattle.stack_queue.specs.Stages.{Stand}
use Rattle.stack_queue.specs.Going.{Begun, BeginsWell, Going, weight_of}

-- The task of an event that stands at a place.
abbrev pub standing_at : ℕ → Dir × PoolEvent → PoolTask
standing_at at sent = record { at = at; direction = sent.0; event = sent.1 }

-- What stages and tasks don't show of a run: how it began, the pool, what came out and how the decisions went.
pub record Rest : Type 0 where
  pub begun : Begun
  pub pool : List Held
  pub out : List (Dir × PoolEvent)
  pub predicted : Predicted

-- A run that began well goes on with these stages, tasks and visits.
pub record GoesWith {S : Type 0} (place : S → ℕ) (layer : S → LayerTree) (refs : S → List ℕ)
    (Ready : List Held → S → Type 0)
    (state : List Held → S → State) (taken : S → ℕ) (r : Rest) (stages : List S) (tasks : List PoolTask) (visits : ℕ) :
    Type 0 where
  pub well : BeginsWell r.begun
  pub few : r.begun.visits ≤ 2 ^ 63
  pub stand : Stand place layer Ready r.begun.stack r.pool stages
  pub going : Going r.begun r.pool
      (record {
        states = map (state r.pool) stages;
        refs = flat_map refs stages;
        tasks = tasks;
        out = r.out;
        predicted =
            r.predicted;
        visits = visits;
        taken = map taken stages;
      })

-- Any run that goes on with the first stages, tasks and visits goes on with the second, and no more weight is pending
-- in it.
pub record Continues {S : Type 0} (place : S → ℕ) (layer : S → LayerTree) (refs : S → List ℕ)
    (Ready : List Held → S → Type 0)
    (state : List Held → S → State) (taken : S → ℕ) (stages : List S) (tasks : List PoolTask) (visits : ℕ)
    (stages' : List S) (tasks' : List PoolTask) (visits' : ℕ) : Type 0 where
  pub goes : (r : Rest) → GoesWith place layer refs Ready state taken r stages tasks visits →
      GoesWith place layer refs Ready state taken r stages' tasks' visits'
  pub lighter : (r : Rest) → GoesWith place layer refs Ready state taken r stages tasks visits →
      weight_of r.begun r.pool tasks' ≤ weight_of r.begun r.pool tasks

-- A task stays where it stands: at an edge, or at a layer that doesn't let its event pass.
abbrev pub StaysAt : List LayerTree → PoolTask → Type 0
StaysAt layers t = (p : List Held) → is_place (length layers) t.at ≡ true →
    is_passed (layer_at layers t.at) t.direction (event_seen p t.event) ≡ false

-- How many layers there are at most ahead of a place.
abbrev pub layers_ahead : Dir → ℕ → ℕ → ℕ
layers_ahead Up places at = suc places - at
layers_ahead Down places at = at
