use Rattle.weight_laws.proofs.Tables.{numbers_fit}
use Rattle.weight_laws.proofs.numbers_fit.Goals as goal

pub returns : goal.returns
returns c = numbers_fit
