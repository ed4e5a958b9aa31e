use Rattle.std.proofs.Common.{◌≡◌, map, take}
use Rattle.layer_ast.specs.Tree.{GivenTree}
use Rattle.layer_ast.specs.View.{given_tree}
use Rattle.file_names.proofs.tables.given_names.Given as goal

abbrev pub invariant-loop-one : goal.invariant-loop-one
invariant-loop-one l = l.names.items ≡ map (λ (g : GivenTree). g.name) (map given_tree (take l.one-index l.given))
