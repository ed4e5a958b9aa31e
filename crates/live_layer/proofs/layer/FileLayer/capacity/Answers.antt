use Rattle.std.proofs.Common.{◌∙◌}
use Rattle.std.specs.Rc.{rc_value}
use Rattle.typed_layer.specs.View.{layer_tree}
use Rattle.cell_store.proofs.Seen.{capacity_for}
use Rattle.live_layer.specs.Layer.{tree_of, IsInOrder}
use Rattle.live_layer.proofs.layer.FileLayer.capacity.Goals as goal

pub returns-clause-layer : goal.returns-clause-layer
unfolding tree_of IsInOrder
returns-clause-layer c p is =
    c.capacity.ensures ∙ capacity_for (layer_tree (rc_value c.args.self.now.layer)) c.args.self.now.desk.cells
    c.args.cell is.forms
