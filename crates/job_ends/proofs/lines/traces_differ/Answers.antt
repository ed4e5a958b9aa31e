use Rattle.std.proofs.Common.{rules, ◌∙◌, codes}
use Rattle.std.proofs.lemmas.Result.{IfOk-weaker}
use Rattle.std.specs.Fmt.{decimal}
use Rattle.job_ends.proofs.Texts.{differ_line, plan_line}
use Rattle.job_ends.proofs.lines.traces_differ.Goals as goal

pub returns-in-0 : goal.returns-in-0
returns-in-0 c = rw (c.in-0.is, ← c.case_number-case.ensures) (IfOk-weaker c.format.result _ _ (λ text is. is
    ∙ differ_line (codes "cast") (decimal c.case_number-case.result) (decimal c.args.act)) c.format.ensures.ok)

pub returns-in-1 : goal.returns-in-1
returns-in-1 c = rw (c.in-1.is, ← c.case_number-case.ensures) (IfOk-weaker c.format-in-1.result _ _ (λ text is. is
    ∙ differ_line (codes "send") (decimal c.case_number-case.result) (decimal c.args.act)) c.format-in-1.ensures.ok)

pub returns-in_default : goal.returns-in_default
returns-in_default c = rw (← c.case_number-case.ensures) (IfOk-weaker c.format-in_default.result _ _ (λ text is. is
    ∙ plan_line c.args.entry (decimal c.case_number-case.result) (decimal c.args.act) (search rules))
    c.format-in_default.ensures.ok)
