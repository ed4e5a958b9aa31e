use Rattle.weight_laws.proofs.Runs.{joins_and_pending}
use Rattle.weight_laws.proofs.joins_and_pending.Goals as goal

pub returns : goal.returns
returns c = joins_and_pending
