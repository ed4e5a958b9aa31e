use Rattle.packet_full.proofs.Steps.{in_steps}
use Rattle.packet_full.proofs.laws.read_in_steps.Goals as goal

pub returns : goal.returns
returns c = in_steps
