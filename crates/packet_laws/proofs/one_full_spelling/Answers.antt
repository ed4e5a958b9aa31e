use Rattle.packet_laws.proofs.Once.{one_full_spelling}
use Rattle.packet_laws.proofs.one_full_spelling.Goals as goal

pub returns : goal.returns
returns c = one_full_spelling
