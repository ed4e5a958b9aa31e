use Rattle.node_laws.proofs.Losses.{sends_are_handed}
use Rattle.node_laws.proofs.sends_are_handed.Goals as goal

pub returns : goal.returns
returns c = sends_are_handed
