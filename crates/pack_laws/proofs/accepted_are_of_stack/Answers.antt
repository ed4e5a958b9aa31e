use Rattle.pack_laws.proofs.Accepted.{accepted_are_of_stack}
use Rattle.pack_laws.proofs.accepted_are_of_stack.Goals as goal

pub returns : goal.returns
returns c = accepted_are_of_stack
