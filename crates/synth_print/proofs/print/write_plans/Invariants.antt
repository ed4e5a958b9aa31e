use Rattle.std.proofs.Common.{map, take}
use Rattle.std.specs.List.{enumerate_from, flat_map}
use Rattle.stack_judge.specs.Answer.{stack_tree}
use Rattle.outside.specs.Lines.{Gains}
use Rattle.outside.specs.Tells.{tells_of}
use Rattle.stack_shapes.specs.Lists.{plan_tree}
use Rattle.synth_print.specs.Entries.{plan_turn}
use Rattle.synth_print.proofs.print.write_plans.Given as goal
use Rattle.trace_core.specs.Bypasses.{bypasses_tree}

abbrev pub invariant-loop-k : goal.invariant-loop-k
invariant-loop-k g l = Gains
    (tells_of g.O.Sink l.initial.out)
    (tells_of g.O.Sink l.out)
    (flat_map (plan_turn (stack_tree l.stack) (bypasses_tree l.bypasses))
    (take l.k (enumerate_from 0 (map plan_tree l.plans))))
