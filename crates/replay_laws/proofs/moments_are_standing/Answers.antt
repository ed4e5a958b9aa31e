use Rattle.replay_laws.proofs.Standing.{moments_are_standing}
use Rattle.replay_laws.proofs.moments_are_standing.Goals as goal

pub returns : goal.returns
returns c = moments_are_standing
