use Rattle.std.proofs.Common.{◌≡◌, map, take}
use Rattle.layer_ast.specs.Tree.{GivenTree}
use Rattle.layer_ast.specs.View.{given_tree}
use Rattle.file_names.proofs.tables.given_words.Given as goal

abbrev pub invariant-loop-one : goal.invariant-loop-one
invariant-loop-one l = l.words ≡ map (λ (g : GivenTree). g.name.word) (map given_tree (take l.one-index l.given))
