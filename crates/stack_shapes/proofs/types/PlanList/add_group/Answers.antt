use Rattle.std.proofs.Common.{arith}
use Rattle.std.proofs.lemmas.List.{length-map}
use Rattle.stack_shapes.specs.Lists.{plan_tree, list_tree}
use Rattle.stack_shapes.proofs.Groups.{shapeless}
use Rattle.stack_shapes.proofs.types.PlanList.add_group.Goals as goal

pub returns-in-Err : goal.returns-in-Err
returns-in-Err c =
    let size = length-map c.args.self.now.list.items plan_tree in
    shapeless (list_tree c.args.self.now) c.args.drawn.now _
    (omega (arith, size, c.args.self.now.few, c.args.self.now.list.ok)) c.in-Err.is
