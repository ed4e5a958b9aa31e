use Rattle.weight_laws.proofs.Rounds.{rounds_settle}
use Rattle.weight_laws.proofs.rounds_settle.Goals as goal

pub returns : goal.returns
returns c = rounds_settle
