use Rattle.program_laws.proofs.Ends.{second_misses_are_due}
use Rattle.program_laws.proofs.second_misses_are_due.Goals as goal

pub returns : goal.returns
returns c = second_misses_are_due
