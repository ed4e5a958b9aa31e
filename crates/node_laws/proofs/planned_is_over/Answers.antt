use Rattle.node_laws.proofs.Stages.{planned_is_over}
use Rattle.node_laws.proofs.planned_is_over.Goals as goal

pub returns : goal.returns
returns c = planned_is_over
