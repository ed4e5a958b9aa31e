use Rattle.packet_laws.proofs.Grown.{none_above_the_top}
use Rattle.packet_laws.proofs.none_above_the_top.Goals as goal

pub returns : goal.returns
returns c = none_above_the_top
