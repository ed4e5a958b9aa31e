-- By computation.
use Rattle.std.proofs.Common.{refl}
use Rattle.std.specs.Fmt.{digits}
use Rattle.audit_mean.specs.declared.law.Finding.TheVariants.{Holds, Breach}
use Rattle.program_rows.proofs.audits_crossed.Goals as goal

pub returns : goal.returns
unfolding digits
returns c = (
  record { finding = Breach 1 2; found = refl; written = refl },
  record { finding = Holds; found = refl; written = refl },
)
