use Rattle.packet_laws.proofs.Once.{one_short_spelling}
use Rattle.packet_laws.proofs.one_short_spelling.Goals as goal

pub returns : goal.returns
returns c = one_short_spelling
