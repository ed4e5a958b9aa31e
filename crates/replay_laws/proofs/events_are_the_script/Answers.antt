use Rattle.replay_laws.proofs.Told.{events_are_the_script}
use Rattle.replay_laws.proofs.events_are_the_script.Goals as goal

pub returns : goal.returns
returns c = events_are_the_script
