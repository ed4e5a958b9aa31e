use Rattle.replay_laws.proofs.Standing.{runs_keep_standing}
use Rattle.replay_laws.proofs.runs_keep_standing.Goals as goal

pub returns : goal.returns
returns c = runs_keep_standing
