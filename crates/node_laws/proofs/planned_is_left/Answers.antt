use Rattle.node_laws.proofs.Stages.{planned_is_left}
use Rattle.node_laws.proofs.planned_is_left.Goals as goal

pub returns : goal.returns
returns c = planned_is_left
