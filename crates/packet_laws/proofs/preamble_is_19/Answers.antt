use Rattle.packet_laws.proofs.Lengths.{preamble_is_19}
use Rattle.packet_laws.proofs.preamble_is_19.Goals as goal

pub returns : goal.returns
returns c = preamble_is_19
