use Rattle.std.proofs.Common.{◌∙◌, ap, codes, ◌++◌}
use Rattle.std.proofs.lemmas.Result.{IfOk-weaker}
use Rattle.std.specs.Fmt.{decimal}
use Rattle.job_ends.proofs.Texts.{four_joined}
use Rattle.job_ends.proofs.lines.cycle.Goals as goal

pub returns : goal.returns
returns c = rw (← c.word.ensures) (IfOk-weaker c.format.result _ _ (λ line is. is
    ∙ ap (λ t. codes "file: cycle " ++ t)
    (four_joined (decimal c.args.place) (codes " ") c.word.result.now (codes "\n"))) c.format.ensures.ok)
