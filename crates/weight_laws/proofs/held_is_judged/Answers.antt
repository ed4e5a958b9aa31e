use Rattle.weight_laws.proofs.Rounds.{held_is_judged}
use Rattle.weight_laws.proofs.held_is_judged.Goals as goal

pub returns : goal.returns
returns c = held_is_judged
