use Rattle.packet_short.proofs.Again.{again}
use Rattle.packet_short.proofs.laws.written_short_is_read.Goals as goal

pub returns : goal.returns
returns c = again
