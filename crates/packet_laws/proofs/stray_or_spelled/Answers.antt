use Rattle.packet_laws.proofs.Strays.{stray_or_spelled}
use Rattle.packet_laws.proofs.stray_or_spelled.Goals as goal

pub returns : goal.returns
returns c = stray_or_spelled
