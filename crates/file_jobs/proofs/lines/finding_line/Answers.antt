use Rattle.std.proofs.Common.{◌∙◌, ap, codes, ◌++◌}
use Rattle.std.proofs.lemmas.Result.{IfOk-weaker}
use Rattle.std.specs.Fmt.{decimal}
use Rattle.file_jobs.proofs.Texts.{four_joined}
use Rattle.file_jobs.proofs.lines.finding_line.Goals as goal

pub returns-in-Breach : goal.returns-in-Breach
returns-in-Breach c = rw c.in-Breach.is (IfOk-weaker c.format.result _ _ (λ line is. is
    ∙ ap (λ t. codes "breach " ++ t)
    (four_joined (decimal c.in-Breach.first) (codes " ") (decimal c.in-Breach.second) (codes "\n")))
    c.format.ensures.ok)
