use Rattle.program_laws.proofs.Ends.{traces_are_due}
use Rattle.program_laws.proofs.traces_are_due.Goals as goal

pub returns : goal.returns
returns c = traces_are_due
