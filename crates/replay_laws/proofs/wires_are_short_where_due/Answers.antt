use Rattle.replay_laws.proofs.Short.{wires_are_short_where_due}
use Rattle.replay_laws.proofs.wires_are_short_where_due.Goals as goal

pub returns : goal.returns
returns c = wires_are_short_where_due
