use Rattle.guard_laws.proofs.Counts.{code_adds_nothing}
use Rattle.guard_laws.proofs.code_adds_nothing.Goals as goal

pub returns : goal.returns
returns c = code_adds_nothing
