-- By computation.
use Rattle.std.proofs.Common.{refl}
use Rattle.std.specs.Fmt.{digits}
use Rattle.hex.proofs.OnLiterals.{hex_on_literals}
use Rattle.script_mean.proofs.generated.datagrams.Goals as goal

pub returns : goal.returns
unfolding digits hex_on_literals
returns c = record { short_form = refl; full_form = refl; cut_short = refl }
