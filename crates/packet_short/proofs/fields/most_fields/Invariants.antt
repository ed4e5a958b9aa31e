use Rattle.std.proofs.Common.{map, take}
use Rattle.std.specs.List.{AllByRecursion}
use Rattle.stack_shapes.specs.Lists.{plan_tree}
use Rattle.packet_short.specs.Keeping.{HasAtMost}
use Rattle.packet_short.proofs.fields.most_fields.Given as goal

abbrev pub invariant-loop-plan : goal.invariant-loop-plan
invariant-loop-plan l = AllByRecursion (HasAtMost l.most) (map plan_tree (take l.plan-index l.plan-items))
