use Rattle.std.proofs.Common.{sym, ◌∙◌}
use Rattle.audit_mean.specs.Finding.{least}
use Rattle.audit_judge.specs.Lacks.{ended_shown, entries_in, ranked_shown, surplus}
use Rattle.std.specs.Prelude.{map}
use Rattle.audit_judge.proofs.First.{lack_of_other}
use Rattle.audit_judge.proofs.lacks.lack_from.Goals as goal

pub returns : goal.returns
returns c =
    λ counts.
    c.first_surplus.ensures (entries_in (ended_shown c.args.one.now)) counts
    ∙ (λ i. least (surplus c.args.one.now.line (entries_in (ended_shown c.args.one.now))
    (map ranked_shown (c.as_slice.ensures.value i))))
    ∙ sym (lack_of_other (ended_shown c.args.one.now) (ended_shown c.args.other.now) _ c.if-not-goes_along.ensures)
