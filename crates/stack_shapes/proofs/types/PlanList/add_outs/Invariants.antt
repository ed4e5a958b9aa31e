use Rattle.std.proofs.Common.{◌≡◌, ◌++◌, map, take}
use Rattle.stack_mean.specs.Plans.{plan_of}
use Rattle.shape_core.specs.Sketch.{out_tree}
use Rattle.stack_shapes.specs.Lists.{packets_in, list_tree}
use Rattle.stack_shapes.proofs.types.PlanList.add_outs.Given as goal

abbrev pub invariant-loop-out : goal.invariant-loop-out
invariant-loop-out l =
    list_tree l.self ≡ take 250
    (list_tree l.fn.self ++ map plan_of (packets_in (map out_tree (take l.out-index l.outs))))
