use Rattle.pack_laws.proofs.Replacement.{replaced_are_of_stack}
use Rattle.pack_laws.proofs.replaced_are_of_stack.Goals as goal

pub returns : goal.returns
returns c = replaced_are_of_stack
