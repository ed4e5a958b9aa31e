use Rattle.desk_needs.proofs.Nodes.{nodes_cover_needs}
use Rattle.desk_needs.proofs.laws.nodes_cover_needs.Goals as goal

pub returns : goal.returns
returns c = nodes_cover_needs
