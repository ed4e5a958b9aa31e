use Rattle.packet_laws.proofs.Grown.{popped_goes_on}
use Rattle.packet_laws.proofs.popped_goes_on.Goals as goal

pub returns : goal.returns
returns c = popped_goes_on
