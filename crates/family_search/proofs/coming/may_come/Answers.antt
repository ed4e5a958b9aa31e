use Rattle.std.proofs.Common.{sym, ◌∙◌}
use Rattle.family_search.proofs.Dues.{may_answer}
use Rattle.family_search.proofs.coming.may_come.Goals as goal

pub returns : goal.returns
returns g c =
    may_answer _ _ _ _ c.takes.result (sym c.may_be.ensures ∙ c.if-not-may_be.false) c.takes.ensures
