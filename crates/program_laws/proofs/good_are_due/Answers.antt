use Rattle.program_laws.proofs.Ends.{good_are_due}
use Rattle.program_laws.proofs.good_are_due.Goals as goal

pub returns : goal.returns
returns c = good_are_due
