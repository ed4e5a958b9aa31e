use Rattle.weight_laws.proofs.Rounds.{largest_in_rounds}
use Rattle.weight_laws.proofs.largest_in_rounds.Goals as goal

pub returns : goal.returns
returns c = largest_in_rounds
