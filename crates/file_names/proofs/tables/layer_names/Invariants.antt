use Rattle.std.proofs.Common.{◌≡◌, map, take}
use Rattle.layer_ast.specs.Tree.{LayerTree}
use Rattle.layer_ast.specs.View.{layer_tree}
use Rattle.file_names.proofs.tables.layer_names.Given as goal

abbrev pub invariant-loop-layer : goal.invariant-loop-layer
invariant-loop-layer l = l.names.items ≡
    map (λ (layer : LayerTree). layer.name) (map layer_tree (take l.layer-index l.layers))
