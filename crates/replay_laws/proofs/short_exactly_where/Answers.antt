use Rattle.replay_laws.proofs.Short.{short_exactly_where}
use Rattle.replay_laws.proofs.short_exactly_where.Goals as goal

pub returns : goal.returns
returns c = short_exactly_where
