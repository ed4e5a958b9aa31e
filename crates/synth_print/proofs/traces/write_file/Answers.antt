use Rattle.std.proofs.Common.{◌∷◌, [], ◌++◌, codes, map, sym}
use Rattle.std.proofs.lemmas.Result.{err_from_is_err_and}
use Rattle.bypass_mean.specs.Lines.{ended_line, file_lines}
use Rattle.stack_judge.specs.Answer.{stack_tree}
use Rattle.outside.proofs.Turns.{part_of, wrote_as, wrote_both}
use Rattle.stack_shapes.specs.Lists.{plan_tree}
use Rattle.synth_print.specs.Lines.{ended_lines}
use Rattle.synth_print.specs.Traces.{all_traces}
use Rattle.synth_print.proofs.Traced.{all_is}
use Rattle.synth_print.proofs.traces.write_file.Goals as goal
use Rattle.trace_core.specs.Bypasses.{bypasses_tree}

pub returns-in_err-put_line : goal.returns-in_err-put_line
returns-in_err-put_line g c =
    let p = err_from_is_err_and c.from_residual.result c.from_residual.ensures.1 in
    let stack = stack_tree c.args.stack.now in
    let plans = map plan_tree c.args.plans.now in
    rw (p.1, p.2) (part_of _ _ (ended_line (codes "bypasses 1") ∷ [])
    (all_traces stack plans c.args.bypasses.now ++ ended_line (codes "end") ∷ [])
    (ended_lines (file_lines stack plans (bypasses_tree c.args.bypasses.now))) _
    (sym (all_is stack plans c.args.bypasses.now)) c.in_err-put_line.ensures.wrote)

pub returns : goal.returns
returns g c =
    wrote_as _ _ _ _ _ (all_is (stack_tree c.args.stack.now) (map plan_tree c.args.plans.now) c.args.bypasses.now)
    (wrote_both _ _ _ _ _ _ c.in_ok-put_line.ensures.wrote c.write_rest.ensures)
