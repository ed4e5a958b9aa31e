use Rattle.std.proofs.lemmas.Result.{IfOk-weaker}
use Rattle.group_open.proofs.codes.given_code.Goals as goal

pub returns : goal.returns
returns c = IfOk-weaker c.code_of.result _ _ (λ codes is. record { bypasses = _; of = c.requires; is = is })
    c.code_of.ensures
