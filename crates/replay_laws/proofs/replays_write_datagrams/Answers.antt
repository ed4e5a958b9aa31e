use Rattle.replay_laws.proofs.Replays.{replays_write_datagrams}
use Rattle.replay_laws.proofs.replays_write_datagrams.Goals as goal

pub returns : goal.returns
returns c = replays_write_datagrams
