use Rattle.std.proofs.Common.{◌∙◌, codes}
use Rattle.std.proofs.lemmas.Result.{IfOk-weaker}
use Rattle.std.specs.Fmt.{decimal}
use Rattle.format_run.proofs.Texts.{five_joined}
use Rattle.format_run.proofs.ending.token_line.Goals as goal

pub returns : goal.returns
returns c = IfOk-weaker c.format.result _ _ (λ line is. is
    ∙ five_joined (codes "file: token ") (decimal c.args.at.line) (codes ":") (decimal c.args.at.col) (codes "\n"))
    c.format.ensures.ok
