use Rattle.packet_laws.proofs.Lengths.{datagrams_fit}
use Rattle.packet_laws.proofs.datagrams_fit.Goals as goal

pub returns : goal.returns
returns c = datagrams_fit
