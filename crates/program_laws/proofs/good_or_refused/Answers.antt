use Rattle.program_laws.proofs.Files.{good_or_refused}
use Rattle.program_laws.proofs.good_or_refused.Goals as goal

pub returns : goal.returns
returns c = good_or_refused
