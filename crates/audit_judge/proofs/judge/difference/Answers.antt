use Rattle.std.proofs.Common.{◌≡◌, ap, ◌∙◌, subst}
use Rattle.std.specs.Prelude.{map, IfOk}
use Rattle.audit_mean.specs.Finding.{least}
use Rattle.audit_judge.specs.Entries.{numbered_lines}
use Rattle.audit_judge.specs.Lacks.{all_lacks, ended_shown}
use Rattle.audit_judge.specs.Reading.{shown_line}
use Rattle.audit_judge.proofs.InLine.{in_line}
use Rattle.audit_judge.proofs.Surplus.{same_finding}
use Rattle.audit_judge.proofs.judge.difference.Goals as goal

pub returns : goal.returns
returns c =
    subst (λ lacks. IfOk c.least_lack.result (λ breach. breach ≡ least lacks))
    (ap (λ es. all_lacks (map ended_shown es)) c.as_slice.ensures.value ∙ ap all_lacks c.in_ok-ended.ensures ∙
    same_finding (numbered_lines c.args.lines.now))
    c.least_lack.ensures

pub least_lack-requires : goal.least_lack-requires
least_lack-requires c = rw (c.as_slice.ensures.value, c.in_ok-ended.ensures) (in_line (map shown_line c.args.lines.now))
