use Rattle.std.proofs.Common.{ap, map}
use Rattle.bypass_mean.specs.Lines.{ended_line, file_lines}
use Rattle.stack_judge.specs.Answer.{stack_tree}
use Rattle.outside.proofs.Turns.{wrote_as}
use Rattle.synth_print.proofs.traces.print_traces.Goals as goal
use Rattle.trace_core.specs.Bypasses.{bypasses_tree}

pub returns : goal.returns
returns g c =
    wrote_as _ _ _ _ _
    (ap (λ plans. map ended_line (file_lines (stack_tree c.args.stack.now) plans (bypasses_tree c.args.bypasses.now)))
    c.slice.ensures.plans)
    c.write_file.ensures
