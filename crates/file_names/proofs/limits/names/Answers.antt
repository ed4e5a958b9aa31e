use Rattle.std.proofs.Common.{refl}
use Rattle.layer_ast.specs.Tree.{ItemTree}
use Rattle.layer_ast.specs.View.{item_tree}
use Rattle.file_names.proofs.Lists.{made_more}
use Rattle.file_names.proofs.limits.names.Goals as goal

pub loop-item-preserved : goal.loop-item-preserved
loop-item-preserved c =
    made_more item_tree (λ (x : ItemTree). x.name) c.args.items.now c.loop-item.item-index c.item-item.result
    c.loop-item.all.items _ _
    c.loop-item-test.true c.item-item.is refl c.loop-item.invariant c.in_ok-push.ensures.items
