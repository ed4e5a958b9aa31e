use Rattle.std.proofs.Common.{refl}
use Rattle.layer_ast.specs.Tree.{LayerTree}
use Rattle.layer_ast.specs.View.{layer_tree}
use Rattle.file_names.proofs.Lists.{made_more}
use Rattle.file_names.proofs.tables.layer_names.Goals as goal

pub loop-layer-preserved : goal.loop-layer-preserved
loop-layer-preserved c =
    made_more layer_tree (λ (x : LayerTree). x.name) c.args.layers.now c.loop-layer.layer-index c.layer-item.result
    c.loop-layer.names.items _ _
    c.loop-layer-test.true c.layer-item.is refl c.loop-layer.invariant c.in_ok-push.ensures.items
