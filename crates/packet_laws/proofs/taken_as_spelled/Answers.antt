use Rattle.packet_laws.proofs.Strays.{taken_as_spelled}
use Rattle.packet_laws.proofs.taken_as_spelled.Goals as goal

pub returns : goal.returns
returns c = taken_as_spelled
