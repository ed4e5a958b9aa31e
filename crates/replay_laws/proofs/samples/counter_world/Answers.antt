use Rattle.replay_laws.proofs.SmallRuns.{counter_world}
use Rattle.replay_laws.proofs.samples.counter_world.Goals as goal

pub returns : goal.returns
returns c = counter_world
