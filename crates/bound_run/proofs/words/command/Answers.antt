use Rattle.std.proofs.Common.{◌∙◌, ap₂}
use Rattle.std.proofs.lemmas.Result.{IfOk-weaker}
use Rattle.clap.specs.Simple.{with_rule}
use Rattle.bound_run.proofs.words.command.Goals as goal

pub returns : goal.returns
returns c =
    let one = c.in_ok-command.ensures ∙ ap₂ with_rule c.bare.ensures c.required.ensures.rule in
    let two = c.in_ok-command-2.ensures ∙ ap₂ with_rule one c.required-2.ensures.rule in
    let three = c.in_ok-command-3.ensures ∙ ap₂ with_rule two c.option.ensures.rule in
    let four = c.in_ok-command-4.ensures ∙ ap₂ with_rule three c.option-2.ensures.rule in
    let five = c.in_ok-command-5.ensures ∙ ap₂ with_rule four c.option-3.ensures.rule in
    IfOk-weaker c.with-6.result _ _ (λ longer is. is ∙ ap₂ with_rule five c.option-4.ensures.rule) c.with-6.ensures
