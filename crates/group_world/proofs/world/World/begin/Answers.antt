use Rattle.std.proofs.Common.{ap}
use Rattle.stack_judge.specs.Answer.{stack_tree}
use Rattle.live_layer.specs.Making.{making}
use Rattle.stack_shapes.specs.Trees.{plans_tree}
use Rattle.group_world.proofs.Begun.{begun, begun_seated, mode_begun}
use Rattle.group_world.proofs.world.World.begin.Goals as goal

pub invariant_of-result : goal.invariant_of-result
invariant_of-result c = begun_seated c.args.opening c.args.n (making c.args.maker.now) (making c.open_all.new.maker)
    c.in-Ok.members.items
    _ _ _ c.in-Ok.ensures (mode_begun c.args.opening _ c.is_some.ensures) (ap stack_tree c.in_ok-stack.ensures.stack)
    (ap plans_tree c.in_ok-stack.ensures.plans)

pub returns-in-Ok : goal.returns-in-Ok
returns-in-Ok c = begun c.args.opening c.args.n (making c.args.maker.now) (making c.open_all.new.maker)
    c.in-Ok.members.items
    _ _ _ _ c.in-Ok.ensures (mode_begun c.args.opening _ c.is_some.ensures)
    (ap stack_tree c.in_ok-stack.ensures.stack) (ap plans_tree c.in_ok-stack.ensures.plans) c.new.ensures
