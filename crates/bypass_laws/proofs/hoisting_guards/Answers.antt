use Rattle.bypass_laws.proofs.Guards.{hoisting_guards}
use Rattle.bypass_laws.proofs.hoisting_guards.Goals as goal

pub returns : goal.returns
returns c = hoisting_guards
