use Rattle.replay_laws.proofs.Short.{layered_is_full}
use Rattle.replay_laws.proofs.layered_is_full.Goals as goal

pub returns : goal.returns
returns c = layered_is_full
