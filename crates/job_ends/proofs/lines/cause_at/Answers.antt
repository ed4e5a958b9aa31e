use Rattle.std.proofs.Common.{◌∙◌, ap, codes, ◌++◌}
use Rattle.std.proofs.lemmas.Result.{IfOk-weaker}
use Rattle.std.specs.Fmt.{decimal}
use Rattle.job_ends.proofs.Texts.{six_joined}
use Rattle.job_ends.proofs.lines.cause_at.Goals as goal

pub returns : goal.returns
returns c = IfOk-weaker c.format.result _ _ (λ line is. is
    ∙ ap (λ t. codes "file: " ++ t)
    (six_joined c.args.cause.now (codes " ") (decimal c.args.at.line) (codes ":") (decimal c.args.at.col) (codes "\n")))
    c.format.ensures.ok
