use Rattle.total_laws.proofs.Law.{total_holds}
use Rattle.total_laws.proofs.total_holds.Goals as goal

pub returns : goal.returns
returns c = total_holds
