use Rattle.replay_laws.proofs.Replays.{packets_expand}
use Rattle.replay_laws.proofs.packets_expand.Goals as goal

pub returns : goal.returns
returns c = packets_expand
