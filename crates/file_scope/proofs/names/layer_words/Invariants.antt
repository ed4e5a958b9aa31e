use Rattle.std.proofs.Common.{◌≡◌, map, take}
use Rattle.layer_ast.specs.Tree.{LayerTree}
use Rattle.layer_ast.specs.View.{layer_tree}
use Rattle.file_scope.proofs.names.layer_words.Given as goal

abbrev pub invariant-loop-layer : goal.invariant-loop-layer
invariant-loop-layer l = l.words ≡
    map (λ (layer : LayerTree). layer.name.word) (map layer_tree (take l.layer-index l.layers))
