use Rattle.weight_laws.proofs.Visits.{sends_follow_arrows}
use Rattle.weight_laws.proofs.sends_follow_arrows.Goals as goal

pub returns : goal.returns
returns c = sends_follow_arrows
