use Rattle.report_laws.proofs.ReadsBack.{audit_finds}
use Rattle.report_laws.proofs.audit_finds.Goals as goal

pub returns : goal.returns
returns c = audit_finds
