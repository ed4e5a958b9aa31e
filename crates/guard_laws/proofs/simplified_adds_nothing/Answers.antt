use Rattle.guard_laws.proofs.Counts.{simplified_adds_nothing}
use Rattle.guard_laws.proofs.simplified_adds_nothing.Goals as goal

pub returns : goal.returns
returns c = simplified_adds_nothing
