use Rattle.std.proofs.Common.{◌∙◌, ap₂}
use Rattle.std.proofs.lemmas.Result.{IfOk-weaker}
use Rattle.clap.specs.Simple.{with_rule}
use Rattle.hunt_run.proofs.words.command.Goals as goal

pub returns : goal.returns
returns c =
    let one = c.in_ok-command.ensures ∙ ap₂ with_rule c.bare.ensures c.required.ensures.rule in
    let two = c.in_ok-command-2.ensures ∙ ap₂ with_rule one c.option.ensures.rule in
    let three = c.in_ok-command-3.ensures ∙ ap₂ with_rule two c.option-2.ensures.rule in
    let four = c.in_ok-command-4.ensures ∙ ap₂ with_rule three c.option-3.ensures.rule in
    let five = c.in_ok-command-5.ensures ∙ ap₂ with_rule four c.option-4.ensures.rule in
    let six = c.in_ok-command-6.ensures ∙ ap₂ with_rule five c.option-5.ensures.rule in
    let seven = c.in_ok-command-7.ensures ∙ ap₂ with_rule six c.option-6.ensures.rule in
    IfOk-weaker c.with-8.result _ _ (λ longer is. is ∙ ap₂ with_rule seven c.option-7.ensures.rule) c.with-8.ensures
