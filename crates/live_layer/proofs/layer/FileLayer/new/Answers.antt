use Rattle.std.proofs.Common.{◌≤◌, length, slice_index_or, refl, ap, subst, ◌∙◌}
use Rattle.std.specs.Rc.{rc_value}
use Rattle.stack_judge.specs.Answer.{stack_tree}
use Rattle.stack_judge.specs.declared.stack.Stack.{Stack}
use Rattle.layer_mean.specs.Tree.{LayerTree, no_layer}
use Rattle.layer_mean.specs.Visit as visit
use Rattle.typed_layer.specs.View.{layer_tree}
use Rattle.typed_layer.specs.declared.tree.TypedLayer.{TypedLayer}
use Rattle.live_layer.specs.Fresh.{IsFresh}
use Rattle.live_layer.specs.Layer.{place_of, tree_of, refs_of, state_in, most_of, taken_by, IsInOrder}
use Rattle.live_layer.specs.Making.{making}
use Rattle.live_layer.proofs.Typed.{made_at}
use Rattle.live_layer.proofs.layer.FileLayer.new.Goals as goal

pub make-requires-clause-made : goal.make-requires-clause-made
unfolding making
make-requires-clause-made c =
    made_at c.args.place (stack_tree (rc_value c.args.maker.now.stack)) (layer_tree c.deref-3.result.now)
    (subst (λ (s : Stack). length (stack_tree s) ≤ 24) c.deref.ensures c.law_within_limits.ensures.places)
    c.requires.typed c.requires.place
    (ap layer_tree (c.deref-3.ensures ∙ c.in_ok-layer.ensures.cases) ∙ c.layer.ensures
    ∙ ap (λ (s : Stack). slice_index_or (stack_tree s) c.args.place no_layer) c.deref-2.ensures)

pub returns : goal.returns
unfolding place_of tree_of refs_of state_in most_of taken_by IsInOrder making
returns c =
    let view = c.args.membership in
    let is = ap layer_tree c.in_ok-layer.ensures.cases ∙ c.layer.ensures
    ∙ ap (λ (s : Stack). slice_index_or (stack_tree s) c.args.place no_layer) c.deref-2.ensures in
    let fresh = subst (λ (layer : TypedLayer). IsFresh (layer_tree layer) view.me view.count view.ltime
    c.in_ok-desk.desk) c.deref-3.ensures
    c.in_ok-desk.ensures.fresh in
    record {
      maker = refl;
      begun = record {
        place = refl;
        tree = is;
        order = fresh.rest;
        refs = fresh.refs;
        state = λ p. fresh.state p ∙ ap (λ (layer : LayerTree). visit.fresh layer view.me view.count view.ltime)
            is;
      };
      most = c.in_ok-desk.ensures.most;
      taken = refl;
    }
