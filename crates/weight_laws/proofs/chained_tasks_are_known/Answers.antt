use Rattle.weight_laws.proofs.Chains.{chained_tasks_are_known}
use Rattle.weight_laws.proofs.chained_tasks_are_known.Goals as goal

pub returns : goal.returns
returns c = chained_tasks_are_known
