use Rattle.std.proofs.Common.{◌∙◌, ap, codes, ◌++◌}
use Rattle.std.proofs.lemmas.Result.{IfOk-weaker}
use Rattle.std.specs.Fmt.{decimal}
use Rattle.peer_handle.proofs.Texts.{three_joined}
use Rattle.peer_handle.proofs.sentence.sentence_of_cycle.Goals as goal

pub returns : goal.returns
returns c = rw (← c.word.ensures) (IfOk-weaker c.format.result _ _ (λ text is. is
    ∙ ap (λ t. codes "file: cycle " ++ t)
    (three_joined (decimal c.args.place) (codes " ") c.word.result.now)) c.format.ensures.ok)
