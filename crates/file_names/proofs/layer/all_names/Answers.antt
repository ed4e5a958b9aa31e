use Rattle.layer_ast.specs.View.{declaration_tree}
use Rattle.fault_mean.specs.Declared.{declared_name}
use Rattle.file_names.proofs.Lists.{made_more}
use Rattle.file_names.proofs.layer.all_names.Goals as goal

pub loop-declaration-preserved : goal.loop-declaration-preserved
loop-declaration-preserved c =
    made_more declaration_tree declared_name c.args.declarations.now c.loop-declaration.declaration-index
    c.declaration-item.result
    c.loop-declaration.all.items _ _ c.loop-declaration-test.true c.declaration-item.is c.declared_name.ensures
    c.loop-declaration.invariant c.in_ok-push.ensures.items
