use Rattle.program_laws.proofs.Ends.{seconds_are_due}
use Rattle.program_laws.proofs.seconds_are_due.Goals as goal

pub returns : goal.returns
returns c = seconds_are_due
