use Rattle.replay_laws.proofs.Told.{without_events_is_the_output}
use Rattle.replay_laws.proofs.without_events_is_the_output.Goals as goal

pub returns : goal.returns
returns c = without_events_is_the_output
