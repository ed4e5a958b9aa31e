use Rattle.guard_laws.proofs.LastCheck.{guards_end_with_checks}
use Rattle.guard_laws.proofs.guards_end_with_checks.Goals as goal

pub returns : goal.returns
returns c = guards_end_with_checks
