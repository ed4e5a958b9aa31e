use Rattle.total_laws.proofs.Law.{audit_holds}
use Rattle.total_laws.proofs.audit_holds.Goals as goal

pub returns : goal.returns
returns c = audit_holds
