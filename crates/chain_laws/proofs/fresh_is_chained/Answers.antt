use Rattle.chain_laws.proofs.Visits.{fresh_is_chained}
use Rattle.chain_laws.proofs.fresh_is_chained.Goals as goal

pub returns : goal.returns
returns c = fresh_is_chained
