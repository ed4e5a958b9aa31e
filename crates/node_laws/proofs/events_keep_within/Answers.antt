use Rattle.node_laws.proofs.Groups.{events_keep_within}
use Rattle.node_laws.proofs.events_keep_within.Goals as goal

pub returns : goal.returns
returns c = events_keep_within
