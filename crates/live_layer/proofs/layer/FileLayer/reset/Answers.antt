use Rattle.std.proofs.Common.{refl, subst}
use Rattle.typed_layer.specs.View.{layer_tree}
use Rattle.typed_layer.specs.declared.tree.TypedLayer.{TypedLayer}
use Rattle.live_layer.specs.Fresh.{IsFresh}
use Rattle.live_layer.specs.Layer.{place_of, tree_of, refs_of, state_in, most_of, taken_by, IsInOrder}
use Rattle.live_layer.proofs.layer.FileLayer.reset.Goals as goal

pub returns-clause-begun : goal.returns-clause-begun
unfolding place_of tree_of refs_of state_in most_of taken_by IsInOrder
returns-clause-begun c =
    let view = c.args.membership in
    let fresh = subst (λ (layer : TypedLayer). IsFresh (layer_tree layer) view.me view.count view.ltime
    c.restart.new.desk) c.deref.ensures
    c.restart.ensures.fresh in
    record {
      place = refl;
      tree = refl;
      order = fresh.rest;
      refs = fresh.refs;
      state = fresh.state;
      most = c.restart.ensures.most;
      taken = refl;
    }
