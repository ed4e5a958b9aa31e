use Rattle.std.proofs.Common.{ap, ◌∙◌}
use Rattle.std.specs.Prelude.{◌==◌, unwrap_or}
use Rattle.std.specs.HashMap as hash
use Rattle.audit_judge.specs.Lacks.{same_content_key}
use Rattle.audit_judge.proofs.lacks.exceeds.Goals as goal

pub returns : goal.returns
returns c = λ all counts.
    ap (λ n. c.args.delivery.now.place == n)
    (c.count_of.ensures ∙ ap (λ k. unwrap_or (hash.get same_content_key c.args.counts.now k) 0) c.content_of.ensures ∙
    counts c.args.delivery.now.entry)
