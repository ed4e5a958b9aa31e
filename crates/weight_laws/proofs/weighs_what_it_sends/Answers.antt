use Rattle.weight_laws.proofs.Sums.{weighs_what_it_sends}
use Rattle.weight_laws.proofs.weighs_what_it_sends.Goals as goal

pub returns : goal.returns
returns c = weighs_what_it_sends
