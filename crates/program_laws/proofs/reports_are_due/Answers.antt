use Rattle.program_laws.proofs.Ends.{reports_are_due}
use Rattle.program_laws.proofs.reports_are_due.Goals as goal

pub returns : goal.returns
returns c = reports_are_due
