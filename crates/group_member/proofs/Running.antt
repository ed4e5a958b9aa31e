-- What a run of stages tells of a member's layers.
use Rattle.std.proofs.Common.{◌≡◌, ◌∙◌, ℕ, ◌+◌, List, [], ◌++◌, map, flat_map, ap, subst}
use Rattle.circular_buffer.specs.Buffer.{buffer}
use Rattle.slot_pool.specs.References.{Moved, Exact}
use Rattle.layer_words.specs.declared.events.Dir.{Dir}
use Rattle.layer_mean.specs.Tree.{LayerTree}
use Rattle.layer_mean.specs.Queue.{Work}
use Rattle.layer_eval.specs.Did.{as_predicted}
use Rattle.layer_eval.specs.declared.predicted.Predicted.{Predicted}
use Rattle.pool_message.specs.Seen.{event_refs}
use Rattle.pool_message.specs.Sent.{sent_refs, sent_seen, SentLie}
use Rattle.pool_message.specs.declared.event.PoolEvent.{PoolEvent}
use Rattle.stack_queue.specs.Pending.{task_seen}
use Rattle.stack_queue.specs.Stages.{Stand, run_of}
use Rattle.stack_queue.specs.Taken.{taken_after}
use Rattle.stack_queue.specs.declared.tasks.PoolTask.{PoolTask}
use Rattle.live_layer.specs.Layer.{place_of, tree_of, refs_of, taken_by, IsInOrder, state_in}
use Rattle.live_layer.specs.declared.layer.FileLayer.{FileLayer}
use Rattle.group_member.specs.Working.{refs_in, work_of, HasRun}
use Rattle.group_member.specs.declared.works.Works.{Works}
use Rattle.group_member.proofs.Pools.{exact_run}

-- the run of these stages
abbrev work : List LayerTree → Works → PoolTask → List FileLayer → Work
work stack old first stages = (run_of stack (map (state_in old.pool) stages) (task_seen old.pool first)).world

pub record Ran (stack : List LayerTree) (old : Works) (first : PoolTask) (stages : List FileLayer) (before : ℕ)
    (new : Works) (news : List
    FileLayer) (after : ℕ)
    (result : Predicted) : Type 0 where
  pub states : map (state_in new.pool) news ≡ (work stack old first stages).states
  pub outs : sent_seen new.pool new.outs.items ≡ sent_seen old.pool old.outs.items ++ (work stack old first stages).outs
  pub predicted : result ≡ as_predicted (work stack old first stages).decided
  pub visits : after ≡ before + (work stack old first stages).visits
  pub taken : map taken_by news ≡ taken_after stack (map (state_in old.pool) stages) (task_seen old.pool first)
      (map taken_by stages)
  pub moved : Moved old.pool new.pool (flat_map refs_of stages ++ (event_refs first.event ++ sent_refs old.outs.items))
      (flat_map refs_of news ++
      sent_refs new.outs.items)
  pub stand : Stand place_of tree_of IsInOrder stack new.pool news
  pub lie : SentLie new.pool new.outs.items
  pub tasks : new.tasks ≡ buffer [] old.tasks.capacity
  pub room : new.outs.capacity ≡ old.outs.capacity

pub has_run : (stack : List LayerTree) (old : Works) (first : PoolTask) (stages : List FileLayer) (before : ℕ)
    (new : Works) (news : List FileLayer)
    (after : ℕ) (result : Predicted) → stages ≡ old.layers.items → news ≡ new.layers.items → old.outs.items ≡ [] →
    Exact old.pool (refs_in old ++
    event_refs first.event) →
    Ran stack old first stages before new news after result → HasRun stack old first before new after result
has_run stack old first stages before new news after result same again none exact ran =
    let its : Ran stack old first old.layers.items before new new.layers.items after result =
    subst (λ (xs : List FileLayer). Ran stack old first old.layers.items before new xs after result) again
    (subst (λ (xs : List FileLayer). Ran stack old first xs before new news after result) same ran) in record {
      states = its.states;
      outs = its.outs ∙ ap (λ (xs : List (Dir × PoolEvent)). sent_seen old.pool xs ++ (work_of stack old first).outs)
          none;
      predicted = its.predicted;
      visits = its.visits;
      taken = its.taken;
      stand = its.stand;
      exact = exact_run old.pool new.pool (refs_in old) (event_refs first.event)
          (refs_in new ++ sent_refs new.outs.items) exact
          (subst (λ (xs : List (Dir × PoolEvent)).
          Moved old.pool new.pool (refs_in old ++ (event_refs first.event ++ sent_refs xs))
          (refs_in new ++ sent_refs new.outs.items)) none its.moved);
      lie = its.lie;
      slots = its.moved.slots;
      tasks = its.tasks;
      room = its.room;
    }
