use Rattle.program_laws.proofs.Ends.{misses_are_due}
use Rattle.program_laws.proofs.misses_are_due.Goals as goal

pub returns : goal.returns
returns c = misses_are_due
