use Rattle.member_laws.proofs.Wires.{packets_fit}
use Rattle.member_laws.proofs.packets_fit.Goals as goal

pub returns : goal.returns
returns c = packets_fit
