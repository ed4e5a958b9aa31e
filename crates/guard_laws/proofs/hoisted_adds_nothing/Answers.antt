use Rattle.guard_laws.proofs.Counts.{hoisted_adds_nothing}
use Rattle.guard_laws.proofs.hoisted_adds_nothing.Goals as goal

pub returns : goal.returns
returns c = hoisted_adds_nothing
