use Rattle.replay_laws.proofs.Standing.{steps_keep_standing}
use Rattle.replay_laws.proofs.steps_keep_standing.Goals as goal

pub returns : goal.returns
returns c = steps_keep_standing
