use Rattle.std.proofs.Common.{◌≡◌, map, take}
use Rattle.layer_ast.specs.View.{layer_tree}
use Rattle.file_types.specs.Files.{rank_of}
use Rattle.file_types.proofs.library.ranks.Given as goal

abbrev pub invariant-loop-k : goal.invariant-loop-k
invariant-loop-k l = l.all.items ≡ map rank_of (map layer_tree (take l.k l.layers))
