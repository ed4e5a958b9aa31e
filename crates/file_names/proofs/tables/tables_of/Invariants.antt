use Rattle.std.proofs.Common.{◌≡◌, map, take}
use Rattle.layer_ast.specs.View.{layer_tree}
use Rattle.file_scope.specs.Words.{own_words}
use Rattle.file_names.proofs.tables.tables_of.Given as goal

abbrev pub invariant-loop-layer : goal.invariant-loop-layer
invariant-loop-layer l = l.tables.items ≡ map own_words (map layer_tree (take l.layer-index l.layers))
