use Rattle.replay_laws.proofs.Told.{replays_tell_events}
use Rattle.replay_laws.proofs.replays_tell_events.Goals as goal

pub returns : goal.returns
returns c = replays_tell_events
