use Rattle.member_laws.proofs.Wires.{wires_are_spelled}
use Rattle.member_laws.proofs.wires_are_spelled.Goals as goal

pub returns : goal.returns
returns c = wires_are_spelled
