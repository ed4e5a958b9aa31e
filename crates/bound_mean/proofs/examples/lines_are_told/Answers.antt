-- By computation.
use Rattle.std.proofs.Common.{refl}
use Rattle.std.specs.Fmt.{digits}
use Rattle.bound_mean.proofs.examples.lines_are_told.Goals as goal

pub returns-clause-holds : goal.returns-clause-holds
unfolding digits
returns-clause-holds c = refl

pub returns-clause-holds_to : goal.returns-clause-holds_to
unfolding digits
returns-clause-holds_to c = refl
