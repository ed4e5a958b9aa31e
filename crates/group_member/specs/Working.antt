-- What a member works with, before a run and after it.
use Rattle.std.specs.Prelude.{◌≡◌, ℕ, ◌+◌, ◌≤◌, List, [], ◌∷◌, ◌++◌, map, length, Option}
use Rattle.std.specs.List.{flat_map}
use Rattle.circular_buffer.specs.Buffer.{buffer}
use Rattle.slot_pool.specs.Held.{Held, spare}
use Rattle.slot_pool.specs.References.{Exact}
use Rattle.layer_words.specs.declared.events.Dir.{Dir}
use Rattle.layer_mean.specs.State.{State}
use Rattle.layer_mean.specs.Tree.{LayerTree}
use Rattle.layer_mean.specs.Queue.{Work, run}
use Rattle.stack_mean.specs.Acceptance.{largest_weight, joins_limit, rows_of, most_rows}
use Rattle.packet_mean.specs.declared.here.Here.{Here}
use Rattle.weight_laws.specs.Runs.{Enters}
use Rattle.chain_laws.specs.Runs.{AreChainedStates, IsChainedTask}
use Rattle.layer_eval.specs.Did.{as_predicted}
use Rattle.layer_eval.specs.declared.predicted.Predicted.{Predicted}
use Rattle.layer_stage.specs.Room.{CountsWithin}
use Rattle.pool_message.specs.Seen.{event_refs, EventLies}
use Rattle.pool_message.specs.Sent.{sent_refs, sent_seen, SentLie}
use Rattle.pool_message.specs.declared.event.PoolEvent.{PoolEvent}
use Rattle.stack_queue.specs.Pending.{task_seen}
use Rattle.stack_queue.specs.Stages.{Stand, most_at_first}
use Rattle.stack_queue.specs.Taken.{taken_after}
use Rattle.stack_queue.specs.declared.tasks.PoolTask.{PoolTask}
use Rattle.run_mean.specs.Member.{Output, most_turns}
use Rattle.pool_laws.specs.Room.{slots_beyond}
use Rattle.live_layer.specs.Layer.{place_of, tree_of, refs_of, taken_by, IsInOrder, state_in}
use Rattle.step_outputs.specs.Gathered.{full_output}
use Rattle.group_member.specs.declared.works.Works.{Works}

-- The states of the layers, the slots to which they refer, and how many events each took.
abbrev pub states_in : Works → List State
states_in w = map (state_in w.pool) w.layers.items

abbrev pub refs_in : Works → List ℕ
refs_in w = flat_map refs_of w.layers.items

abbrev pub taken_in : Works → List ℕ
taken_in w = map taken_by w.layers.items

-- The layers are those of a stack, each at its place and in order.
abbrev pub AreStanding : List LayerTree → Works → Type 0
AreStanding stack w = Stand place_of tree_of IsInOrder stack w.pool w.layers.items

-- Nothing has changed: the same layers stand over the same pool.
pub record AreSame (old new : Works) : Type 0 where
  pub layers : new.layers.items ≡ old.layers.items
  pub pool : new.pool ≡ old.pool
  pub tasks : new.tasks ≡ old.tasks
  pub outs : new.outs ≡ old.outs

-- No task is pending and nothing was sent, and there are as many places as the stack weighs.
pub record IsQuiet (stack : List LayerTree) (w : Works) : Type 0 where
  pub tasks : w.tasks ≡ buffer [] (largest_weight stack)
  pub outs : w.outs ≡ buffer [] (largest_weight stack)

-- A member whose first view had `most` members, between two steps: its pool counts exactly what its layers refer to,
-- and has a slot for each row with a message that they may keep, and those that a run asks for.
pub record IsReady (stack : List LayerTree) (most : ℕ) (w : Works) : Type 0 where
  pub stand : AreStanding stack w
  pub exact : Exact w.pool (refs_in w)
  pub quiet : IsQuiet stack w
  pub slots : length w.pool ≡ rows_of stack most + slots_beyond
  pub few : rows_of stack most ≤ most_rows

-- A run can begin from this task, the only one pending.
pub record CanRun (stack : List LayerTree) (w : Works) (first : PoolTask) : Type 0 where
  pub stand : AreStanding stack w
  pub exact : Exact w.pool (refs_in w ++ event_refs first.event)
  pub tasks : w.tasks ≡ buffer (first ∷ []) (largest_weight stack)
  pub outs : w.outs ≡ buffer [] (largest_weight stack)
  pub lies : EventLies w.pool first.event
  pub states : AreChainedStates stack (states_in w)
  pub chained : IsChainedTask stack (task_seen w.pool first)
  pub enters : Enters stack first.at first.direction first.event.kind
  pub joins : joins_limit ≤ spare w.pool
  pub counts : CountsWithin most_at_first w.pool

-- The work of that run.
abbrev pub work_of : List LayerTree → Works → PoolTask → Work
work_of stack w first = (run most_turns stack (states_in w) (task_seen w.pool first)).world

-- The run was made: the states of the layers and what came out, in order, are those of its work, and so are the visits
-- and whether they went as predicted. Each layer has taken an event at each of its visits. The pool counts exactly what
-- the layers, and what came out, refer to. No task is left.
pub record HasRun (stack : List LayerTree) (old : Works) (first : PoolTask) (before : ℕ) (new : Works) (after : ℕ)
    (result : Predicted) : Type 0 where
  pub states : states_in new ≡ (work_of stack old first).states
  pub outs : sent_seen new.pool new.outs.items ≡ (work_of stack old first).outs
  pub predicted : result ≡ as_predicted (work_of stack old first).decided
  pub visits : after ≡ before + (work_of stack old first).visits
  pub taken : taken_in new ≡ taken_after stack (states_in old) (task_seen old.pool first) (taken_in old)
  pub stand : AreStanding stack new
  pub exact : Exact new.pool (refs_in new ++ sent_refs new.outs.items)
  pub lie : SentLie new.pool new.outs.items
  pub slots : length new.pool ≡ length old.pool
  pub tasks : new.tasks ≡ buffer [] old.tasks.capacity
  pub room : new.outs.capacity ≡ old.outs.capacity

-- Events that leave, as outputs of a member that is here; none is sent short.
abbrev pub outputs_in : Here → List Held → List (Dir × PoolEvent) → List (Output × Option ℕ)
outputs_in here p sent = map (full_output here) (sent_seen p sent)
