use Rattle.bypass_laws.proofs.Making.{simplest_are_of_stack}
use Rattle.bypass_laws.proofs.simplest_are_of_stack.Goals as goal

pub returns : goal.returns
returns c = simplest_are_of_stack
