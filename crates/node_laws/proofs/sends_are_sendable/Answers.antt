use Rattle.node_laws.proofs.Groups.{sends_are_sendable}
use Rattle.node_laws.proofs.sends_are_sendable.Goals as goal

pub returns : goal.returns
returns c = sends_are_sendable
