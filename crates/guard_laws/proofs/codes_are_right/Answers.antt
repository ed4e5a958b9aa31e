use Rattle.guard_laws.proofs.Entry.{codes_are_right}
use Rattle.guard_laws.proofs.codes_are_right.Goals as goal

pub returns : goal.returns
returns c = codes_are_right
