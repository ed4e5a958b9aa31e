use Rattle.chain_laws.proofs.Orderly.{chained_is_known}
use Rattle.chain_laws.proofs.chained_is_known.Goals as goal

pub returns : goal.returns
returns c = chained_is_known
