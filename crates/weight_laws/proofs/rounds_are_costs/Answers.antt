use Rattle.weight_laws.proofs.Rounds.{rounds_are_costs}
use Rattle.weight_laws.proofs.rounds_are_costs.Goals as goal

pub returns : goal.returns
returns c = rounds_are_costs
