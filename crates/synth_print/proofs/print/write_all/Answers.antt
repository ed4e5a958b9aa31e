use Rattle.std.proofs.Common.{◌∷◌, [], map, sym}
use Rattle.std.proofs.lemmas.Result.{err_from_is_err_and}
use Rattle.bypass_mean.specs.Lines.{end_line, ended_line, printed_lines}
use Rattle.stack_judge.specs.Answer.{stack_tree}
use Rattle.outside.proofs.Turns.{part_of, wrote_as, wrote_both}
use Rattle.stack_shapes.specs.Lists.{plan_tree}
use Rattle.synth_print.proofs.Printed.{all_is}
use Rattle.synth_print.proofs.print.write_all.Goals as goal
use Rattle.trace_core.specs.Bypasses.{bypasses_tree}

pub returns-in_err-write_entries : goal.returns-in_err-write_entries
returns-in_err-write_entries g c =
    let p = err_from_is_err_and c.from_residual.result c.from_residual.ensures.1 in
    rw (p.1, p.2) (part_of _ _ _ (ended_line (end_line (bypasses_tree c.args.bypasses.now)) ∷ [])
    (printed_lines (stack_tree c.args.stack.now) (map plan_tree c.args.plans.now) (bypasses_tree c.args.bypasses.now)) _
    (sym (all_is (stack_tree c.args.stack.now) (map plan_tree c.args.plans.now) c.args.bypasses.now))
    c.in_err-write_entries.ensures)

pub returns : goal.returns
returns g c =
    wrote_as _ _ _ _ _ (all_is (stack_tree c.args.stack.now) (map plan_tree c.args.plans.now) c.args.bypasses.now)
    (wrote_both _ _ _ _ _ _ c.in_ok-write_entries.ensures c.write_end.ensures)
