use Rattle.replay_laws.proofs.Replays.{replays_miss_on_the_way}
use Rattle.replay_laws.proofs.replays_miss_on_the_way.Goals as goal

pub returns : goal.returns
returns c = replays_miss_on_the_way
