-- By computation.
use Rattle.std.proofs.Common.{refl}
use Rattle.std.specs.Fmt.{digits}
use Rattle.hunt_mean.proofs.examples.lines_are_told.Goals as goal

pub returns-clause-told : goal.returns-clause-told
unfolding digits
returns-clause-told c = refl
