use Rattle.replay_laws.proofs.Standing.{opened_is_standing}
use Rattle.replay_laws.proofs.opened_is_standing.Goals as goal

pub returns : goal.returns
returns c = opened_is_standing
