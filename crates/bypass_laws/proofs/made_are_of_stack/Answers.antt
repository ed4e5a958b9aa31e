use Rattle.bypass_laws.proofs.Making.{made_are_of_stack}
use Rattle.bypass_laws.proofs.made_are_of_stack.Goals as goal

pub returns : goal.returns
returns c = made_are_of_stack
