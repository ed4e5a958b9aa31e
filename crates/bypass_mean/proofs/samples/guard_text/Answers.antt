-- By computation.
use Rattle.std.proofs.Common.{refl}
use Rattle.std.specs.Fmt.{digits}
use Rattle.layer_words.specs.Spelling.{reserved, symbols}
use Rattle.bypass_mean.proofs.samples.guard_text.Goals as goal

pub returns : goal.returns
unfolding digits reserved symbols
returns c = refl
