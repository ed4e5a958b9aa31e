use Rattle.miss_laws.proofs.Told.{misses_are_told}
use Rattle.miss_laws.proofs.law_misses_are_told.Goals as goal

pub returns : goal.returns
returns c = misses_are_told
