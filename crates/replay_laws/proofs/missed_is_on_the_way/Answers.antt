use Rattle.replay_laws.proofs.Missed.{missed_is_on_the_way}
use Rattle.replay_laws.proofs.missed_is_on_the_way.Goals as goal

pub returns : goal.returns
returns c = missed_is_on_the_way
