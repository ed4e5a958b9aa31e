use Rattle.std.proofs.Common.{◌≡◌, map, take}
use Rattle.layer_ast.specs.View.{layer_tree}
use Rattle.file_names.specs.Called.{called_of}
use Rattle.file_names.proofs.library.library.Given as goal

abbrev pub invariant-loop-k : goal.invariant-loop-k
invariant-loop-k l = l.all.items ≡ map called_of (map layer_tree (take l.k l.layers))
