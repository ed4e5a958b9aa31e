use Rattle.program_laws.proofs.Files.{one_meaning}
use Rattle.program_laws.proofs.one_meaning.Goals as goal

pub returns : goal.returns
returns c = one_meaning
