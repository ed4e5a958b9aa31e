-- By computation.
use Rattle.std.proofs.Common.{refl}
use Rattle.std.specs.Fmt.{digits}
use Rattle.hunt_mean.proofs.examples.runs_are_told.Goals as goal

pub returns : goal.returns
unfolding digits
returns c = refl
