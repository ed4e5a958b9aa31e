use Rattle.member_laws.proofs.Fit.{predicted_packets_fit}
use Rattle.member_laws.proofs.predicted_packets_fit.Goals as goal

pub returns : goal.returns
returns c = predicted_packets_fit
