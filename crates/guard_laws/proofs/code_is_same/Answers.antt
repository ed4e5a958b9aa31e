use Rattle.guard_laws.proofs.Straight.{code_is_same}
use Rattle.guard_laws.proofs.code_is_same.Goals as goal

pub returns : goal.returns
returns c = code_is_same
