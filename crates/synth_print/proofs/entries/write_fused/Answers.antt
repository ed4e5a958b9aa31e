use Rattle.std.proofs.Common.{◌∷◌, [], ◌++◌, codes, refl}
use Rattle.std.proofs.lemmas.Result.{err_from_is_err_and}
use Rattle.stack_judge.specs.Answer.{stack_tree}
use Rattle.bypass_mean.specs.Lines.{ended_line, guarded_lines}
use Rattle.outside.proofs.Turns.{part_of, wrote_both}
use Rattle.synth_print.specs.Entries.{heading}
use Rattle.synth_print.specs.Lines.{ended_lines}
use Rattle.synth_print.proofs.entries.write_fused.Goals as goal
use Rattle.trace_core.specs.Trees.{guarded_tree}

pub returns-in_err-write_heading : goal.returns-in_err-write_heading
returns-in_err-write_heading g c =
    let p = err_from_is_err_and c.from_residual.result c.from_residual.ensures.1 in
    rw (p.1, p.2) (part_of _ _ (ended_line (heading c.args.case.name c.args.case.second ++ codes " fused") ∷ [])
    (ended_lines (guarded_lines (stack_tree c.args.stack.now) (guarded_tree c.args.guarded.now))) _ _ refl
    c.in_err-write_heading.ensures)

pub returns : goal.returns
returns g c =
    wrote_both _ _ _ (ended_line (heading c.args.case.name c.args.case.second ++ codes " fused") ∷ [])
    (ended_lines (guarded_lines (stack_tree c.args.stack.now) (guarded_tree c.args.guarded.now))) _
    c.in_ok-write_heading.ensures c.write_handler.ensures
