use Rattle.replay_laws.proofs.Datagrams.{lines_are_woven}
use Rattle.replay_laws.proofs.lines_are_woven.Goals as goal

pub returns : goal.returns
returns c = lines_are_woven
