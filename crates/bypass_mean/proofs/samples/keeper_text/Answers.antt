-- By computation.
use Rattle.std.proofs.Common.{refl}
use Rattle.std.specs.Fmt.{digits}
use Rattle.bypass_mean.proofs.samples.keeper_text.Goals as goal

pub returns : goal.returns
unfolding digits
returns c = refl
