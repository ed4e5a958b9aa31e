use Rattle.member_laws.proofs.Nodes.{nodes_are_chained}
use Rattle.member_laws.proofs.nodes_are_chained.Goals as goal

pub returns : goal.returns
returns c = nodes_are_chained
