use Rattle.program_laws.proofs.Ends.{one_end}
use Rattle.program_laws.proofs.one_end.Goals as goal

pub returns : goal.returns
returns c = one_end
