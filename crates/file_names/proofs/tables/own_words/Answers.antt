use Rattle.std.proofs.Common.{ap}
use Rattle.layer_ast.specs.Tree.{DeclarationTree}
use Rattle.layer_ast.specs.View.{declaration_tree}
use Rattle.layer_ast.specs.declared.names.Name.{Name}
use Rattle.fault_mean.specs.Declared.{declared_name}
use Rattle.file_names.proofs.Lists.{made_more}
use Rattle.file_names.proofs.tables.own_words.Goals as goal

pub loop-declaration-preserved : goal.loop-declaration-preserved
loop-declaration-preserved c =
    made_more declaration_tree (λ (d : DeclarationTree). (declared_name d).word) c.args.declarations.now
    c.loop-declaration.declaration-index c.declaration-item.result c.loop-declaration.words _ _
    c.loop-declaration-test.true
    c.declaration-item.is (ap (λ (n : Name). n.word) c.declared_name.ensures) c.loop-declaration.invariant
    c.in_ok-push.ensures.pushed
