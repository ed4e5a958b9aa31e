use Rattle.weight_laws.proofs.Costs.{costs_follow_arrows}
use Rattle.weight_laws.proofs.costs_follow_arrows.Goals as goal

pub returns : goal.returns
returns c = costs_follow_arrows
