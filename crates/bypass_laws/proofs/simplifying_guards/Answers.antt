use Rattle.bypass_laws.proofs.Guards.{simplifying_guards}
use Rattle.bypass_laws.proofs.simplifying_guards.Goals as goal

pub returns : goal.returns
returns c = simplifying_guards
