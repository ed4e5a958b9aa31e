use Rattle.total_laws.proofs.Law.{is_typed}
use Rattle.total_laws.proofs.is_typed.Goals as goal

pub returns : goal.returns
returns c = is_typed
