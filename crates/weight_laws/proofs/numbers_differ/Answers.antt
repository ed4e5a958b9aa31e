use Rattle.weight_laws.proofs.Tables.{numbers_differ}
use Rattle.weight_laws.proofs.numbers_differ.Goals as goal

pub returns : goal.returns
returns c = numbers_differ
