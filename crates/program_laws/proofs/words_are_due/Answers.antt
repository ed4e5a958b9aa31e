use Rattle.program_laws.proofs.Ends.{words_are_due}
use Rattle.program_laws.proofs.words_are_due.Goals as goal

pub returns : goal.returns
returns c = words_are_due
