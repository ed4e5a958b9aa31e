use Rattle.weight_laws.proofs.Runs.{turns_fit}
use Rattle.weight_laws.proofs.turns_fit.Goals as goal

pub returns : goal.returns
returns c = turns_fit
