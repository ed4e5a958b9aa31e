use Rattle.chain_laws.proofs.Visits.{visits_keep_chains}
use Rattle.chain_laws.proofs.visits_keep_chains.Goals as goal

pub returns : goal.returns
returns c = visits_keep_chains
