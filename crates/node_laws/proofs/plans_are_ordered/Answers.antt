use Rattle.node_laws.proofs.Stages.{plans_are_ordered}
use Rattle.node_laws.proofs.plans_are_ordered.Goals as goal

pub returns : goal.returns
returns c = plans_are_ordered
