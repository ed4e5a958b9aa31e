-- By computation.
use Rattle.std.proofs.Common.{refl}
use Rattle.std.specs.Fmt.{digits}
use Rattle.layer_words.specs.Spelling.{kinds, reserved, symbols}
use Rattle.pack_laws.proofs.samples.others_are_refused.Goals as goal

pub returns : goal.returns
unfolding digits kinds reserved symbols
returns c = (
  refl,
  refl,
  refl,
  refl,
  refl,
  refl,
  refl,
  refl,
  refl,
  refl,
  refl,
  refl,
  refl,
  refl,
  refl,
  refl,
  refl,
  refl,
  refl,
  refl,
  refl,
  refl,
  refl,
  refl,
  refl,
  refl,
  refl,
  refl,
  refl,
  refl,
)
