use Rattle.std.proofs.Common.{◌≡◌, map, take}
use Rattle.layer_ast.specs.Tree.{DeclarationTree}
use Rattle.layer_ast.specs.View.{declaration_tree}
use Rattle.fault_mean.specs.Declared.{declared_name}
use Rattle.file_names.proofs.tables.own_words.Given as goal

abbrev pub invariant-loop-declaration : goal.invariant-loop-declaration
invariant-loop-declaration l = l.words ≡ map (λ (d : DeclarationTree). (declared_name d).word)
    (map declaration_tree (take l.declaration-index l.declarations))
