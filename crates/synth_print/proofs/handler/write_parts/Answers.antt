use Rattle.std.proofs.Common.{sym}
use Rattle.std.proofs.lemmas.Result.{err_from_is_err_and}
use Rattle.bypass_mean.specs.Lines.{guarded_lines}
use Rattle.stack_judge.specs.Answer.{stack_tree}
use Rattle.outside.proofs.Turns.{part_of, wrote_as, wrote_both}
use Rattle.synth_print.specs.Lines.{all_done, ended_lines, handler_in}
use Rattle.synth_print.specs.Source.{operations_in}
use Rattle.synth_print.proofs.Loops.{handler_lines}
use Rattle.synth_print.proofs.handler.write_parts.Goals as goal

pub returns-in_err-write_guard : goal.returns-in_err-write_guard
returns-in_err-write_guard g c =
    let p = err_from_is_err_and c.from_residual.result c.from_residual.ensures.1 in
    let s = c.args.stacked.source.now in
    let stack = stack_tree c.args.stacked.stack.now in
    let handler = handler_in s c.args.guard.values.now c.args.guard.conjuncts.now in
    rw (p.1, p.2) (part_of _ _ _ (all_done s.noting stack (operations_in s)) (ended_lines (guarded_lines stack handler))
    _
    (sym (handler_lines stack s.noting handler c.requires.spelled)) c.in_err-write_guard.ensures)

pub returns : goal.returns
returns g c =
    let s = c.args.stacked.source.now in
    wrote_as _ _ _ _ _
    (handler_lines (stack_tree c.args.stacked.stack.now) s.noting
    (handler_in s c.args.guard.values.now c.args.guard.conjuncts.now)
    c.requires.spelled)
    (wrote_both _ _ _ _ _ _ c.in_ok-write_guard.ensures c.write_operations.ensures)
