use Rattle.weight_laws.proofs.Runs.{turns_and_weight}
use Rattle.weight_laws.proofs.turns_and_weight.Goals as goal

pub returns : goal.returns
returns c = turns_and_weight
