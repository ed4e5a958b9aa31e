use Rattle.std.proofs.Common.{None, refl}
use Rattle.audit_judge.proofs.Deliveries.{at_first}
use Rattle.audit_judge.proofs.segments.Segments.first.Goals as goal

pub returns : goal.returns
returns c = at_first (record { view = None; began = 0 }) refl
