use Rattle.replay_laws.proofs.Standing.{first_world_is_standing}
use Rattle.replay_laws.proofs.first_world_is_standing.Goals as goal

pub returns : goal.returns
returns c = first_world_is_standing
