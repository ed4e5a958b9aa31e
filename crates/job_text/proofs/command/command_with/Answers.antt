use Rattle.std.proofs.Common.{◌∙◌, ap₂, refl}
use Rattle.std.proofs.lemmas.Result.{IfOk-weaker}
use Rattle.clap.specs.Simple.{with_rule}
use Rattle.job_text.proofs.command.command_with.Goals as goal

pub returns : goal.returns
returns c =
    let one = c.in_ok-command.ensures ∙ ap₂ with_rule c.bare.ensures c.required.ensures.rule in
    let two = c.in_ok-command-2.ensures ∙ ap₂ with_rule one c.required-2.ensures.rule in
    let three = c.in_ok-command-3.ensures ∙ ap₂ with_rule two c.positional.ensures.rule in
    let four = c.in_ok-command-4.ensures ∙ ap₂ with_rule three c.option.ensures.rule in
    let five = c.in_ok-command-5.ensures ∙ ap₂ with_rule four c.option-2.ensures.rule in
    let six = c.in_ok-command-6.ensures ∙ ap₂ with_rule five refl in
    let seven = c.in_ok-command-7.ensures ∙ ap₂ with_rule six c.option-3.ensures.rule in
    let eight = c.in_ok-command-8.ensures ∙ ap₂ with_rule seven c.option-4.ensures.rule in
    let nine = c.in_ok-command-9.ensures ∙ ap₂ with_rule eight c.option-5.ensures.rule in
    let ten = c.in_ok-command-10.ensures ∙ ap₂ with_rule nine c.option-6.ensures.rule in
    let eleven = c.in_ok-command-11.ensures ∙ ap₂ with_rule ten c.option-7.ensures.rule in
    let twelve = c.in_ok-command-12.ensures ∙ ap₂ with_rule eleven c.option-8.ensures.rule in
    let thirteen = c.in_ok-command-13.ensures ∙ ap₂ with_rule twelve c.flag.ensures.rule in
    let fourteen = c.in_ok-command-14.ensures ∙ ap₂ with_rule thirteen c.flag-2.ensures.rule in
    IfOk-weaker c.with-15.result _ _ (λ longer is. is ∙ ap₂ with_rule fourteen c.flag-3.ensures.rule) c.with-15.ensures
