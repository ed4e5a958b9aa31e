use Rattle.replay_laws.proofs.SmallRuns.{given_twice}
use Rattle.replay_laws.proofs.samples.given_twice.Goals as goal

pub returns : goal.returns
returns c = given_twice
