-- Where nothing has changed, all is as it was.
use Rattle.std.proofs.Common.{◌≡◌, ◌∙◌, ℕ, List, map, length, flat_map, sym, ap, subst}
use Rattle.slot_pool.specs.Held.{Held}
use Rattle.slot_pool.specs.References.{Exact}
use Rattle.layer_mean.specs.Tree.{LayerTree}
use Rattle.stack_queue.specs.Stages.{Stand}
use Rattle.live_layer.specs.Layer.{place_of, tree_of, refs_of, taken_by, IsInOrder, state_in}
use Rattle.live_layer.specs.declared.layer.FileLayer.{FileLayer}
use Rattle.group_member.specs.Working.{states_in, taken_in, AreSame, IsReady}
use Rattle.group_member.specs.declared.works.Works.{Works}

pub same_states : (old new : Works) → AreSame old new → states_in new ≡ states_in old
same_states old new same = λ i. map (state_in (same.pool i)) (same.layers i)

pub same_taken : (old new : Works) → AreSame old new → taken_in new ≡ taken_in old
same_taken old new same = ap (map taken_by) same.layers

pub same_ready : (stack : List LayerTree) (most : ℕ) (old new : Works) → AreSame old new → IsReady stack most old →
    IsReady stack most new
same_ready stack most old new same ready = record {
  stand = subst (λ (layers : List FileLayer). Stand place_of tree_of IsInOrder stack new.pool layers) (sym same.layers)
      (subst (λ (p : List Held). Stand place_of tree_of IsInOrder stack p old.layers.items) (sym same.pool)
      ready.stand);
  exact = subst (λ (layers : List FileLayer). Exact new.pool (flat_map refs_of layers)) (sym same.layers)
      (subst (λ (p : List Held). Exact p (flat_map refs_of old.layers.items)) (sym same.pool) ready.exact);
  quiet = record { tasks = same.tasks ∙ ready.quiet.tasks; outs = same.outs ∙ ready.quiet.outs };
  slots = ap (λ (p : List Held). length p) same.pool ∙ ready.slots;
  few = ready.few;
}
