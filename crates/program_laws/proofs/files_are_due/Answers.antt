use Rattle.program_laws.proofs.Ends.{files_are_due}
use Rattle.program_laws.proofs.files_are_due.Goals as goal

pub returns : goal.returns
returns c = files_are_due
