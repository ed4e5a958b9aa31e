use Rattle.std.proofs.Common.{◌∙◌, ap}
use Rattle.std.proofs.lemmas.Result.{IfOk-weaker}
use Rattle.job_mean.specs.Command.{command_with}
use Rattle.job_text.proofs.command.command.Goals as goal

pub returns : goal.returns
returns c = IfOk-weaker c.command_with.result _ _ (λ command is. is ∙ ap command_with c.option.ensures.rule)
    c.command_with.ensures
