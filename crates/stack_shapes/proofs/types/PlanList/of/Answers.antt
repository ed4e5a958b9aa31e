use Rattle.std.proofs.Common.{map, ap}
use Rattle.shape_core.specs.Cases.{case_trees}
use Rattle.stack_shapes.specs.Lists.{plan_tree}
use Rattle.stack_shapes.proofs.Groups.{all_groups}
use Rattle.stack_shapes.proofs.types.PlanList.of.Goals as goal

pub returns : goal.returns
returns c = λ stack casts sends.
    all_groups stack (case_trees c.args.cast.now) (case_trees c.args.send.now) _ _ _ _ _ casts sends
    (ap (map plan_tree) c.new.ensures.items)
    c.in_ok-add_group.ensures c.in_ok-add_group-2.ensures c.in_ok-add_group-3.ensures c.in_ok-add_group-4.ensures
