use Rattle.chain_laws.proofs.Runs.{chains_are_short}
use Rattle.chain_laws.proofs.chains_are_short.Goals as goal

pub returns : goal.returns
returns c = chains_are_short
