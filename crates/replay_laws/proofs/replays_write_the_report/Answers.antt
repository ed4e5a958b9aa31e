use Rattle.replay_laws.proofs.Replays.{replays_write_the_report}
use Rattle.replay_laws.proofs.replays_write_the_report.Goals as goal

pub returns : goal.returns
returns c = replays_write_the_report
