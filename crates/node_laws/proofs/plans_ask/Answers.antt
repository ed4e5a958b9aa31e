use Rattle.node_laws.proofs.Stages.{plans_ask}
use Rattle.node_laws.proofs.plans_ask.Goals as goal

pub returns : goal.returns
returns c = plans_ask
