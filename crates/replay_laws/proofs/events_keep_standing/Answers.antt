use Rattle.replay_laws.proofs.Standing.{events_keep_standing}
use Rattle.replay_laws.proofs.events_keep_standing.Goals as goal

pub returns : goal.returns
returns c = events_keep_standing
