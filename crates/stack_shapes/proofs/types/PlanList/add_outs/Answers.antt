use Rattle.std.proofs.Common.{[], refl, arith}
use Rattle.std.proofs.lemmas.List.{length-map}
use Rattle.stack_shapes.specs.Lists.{plan_tree, list_tree}
use Rattle.stack_shapes.proofs.Gathered.{none_more, outs_more}
use Rattle.stack_shapes.proofs.types.PlanList.add_outs.Goals as goal

pub loop-out-init : goal.loop-out-init
loop-out-init c =
    let size = length-map c.args.self.now.list.items plan_tree in
    none_more (list_tree c.args.self.now) [] (omega (arith, size, c.args.self.now.few, c.args.self.now.list.ok)) refl

pub loop-out-preserved : goal.loop-out-preserved
loop-out-preserved c =
    outs_more (list_tree c.args.self.now) (list_tree c.loop-out.self) (list_tree c.add.new.self) c.args.outs.now
    c.loop-out.out-index c.out-item.result
    c.loop-out-test.true c.out-item.is c.loop-out.invariant c.in_ok-add.ensures
