use Rattle.node_laws.proofs.Groups.{first_views_are_within}
use Rattle.node_laws.proofs.first_views_are_within.Goals as goal

pub returns : goal.returns
returns c = first_views_are_within
