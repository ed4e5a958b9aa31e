use Rattle.std.proofs.Common.{◌≡◌, map, take}
use Rattle.stack_judge.specs.Answer.{stack_tree}
use Rattle.shape_core.specs.Cases.{case_trees}
use Rattle.stack_shapes.specs.Lists.{plan_tree}
use Rattle.stack_shapes.specs.Shapes.{plan_shapes}
use Rattle.stack_shapes.proofs.made.all_shapes.Given as goal

abbrev pub invariant-loop-plan : goal.invariant-loop-plan
invariant-loop-plan l = map case_trees l.all.items ≡
    map (plan_shapes (stack_tree l.stack)) (map plan_tree (take l.plan-index l.plans))
