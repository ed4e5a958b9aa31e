use Rattle.packet_laws.proofs.Strays.{received_as_meant}
use Rattle.packet_laws.proofs.received_as_meant.Goals as goal

pub returns : goal.returns
returns c = received_as_meant
