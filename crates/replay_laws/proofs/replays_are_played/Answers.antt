use Rattle.replay_laws.proofs.Steps.{replays_are_played}
use Rattle.replay_laws.proofs.replays_are_played.Goals as goal

pub returns : goal.returns
returns c = replays_are_played
