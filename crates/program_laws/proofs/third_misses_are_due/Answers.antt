use Rattle.program_laws.proofs.Ends.{third_misses_are_due}
use Rattle.program_laws.proofs.third_misses_are_due.Goals as goal

pub returns : goal.returns
returns c = third_misses_are_due
