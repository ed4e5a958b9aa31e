use Rattle.std.proofs.Common.{◌∙◌, ap, codes, ◌++◌}
use Rattle.std.proofs.lemmas.Result.{IfOk-weaker}
use Rattle.std.specs.Fmt.{decimal}
use Rattle.peer_handle.proofs.Texts.{five_joined}
use Rattle.peer_handle.proofs.sentence.sentence_at.Goals as goal

pub returns : goal.returns
returns c = IfOk-weaker c.format.result _ _ (λ text is. is
    ∙ ap (λ t. codes "file: " ++ t)
    (five_joined c.args.cause.now (codes " ") (decimal c.args.at.line) (codes ":") (decimal c.args.at.col)))
    c.format.ensures.ok
