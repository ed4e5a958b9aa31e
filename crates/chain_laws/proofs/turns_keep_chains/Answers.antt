use Rattle.chain_laws.proofs.Runs.{turns_keep_chains}
use Rattle.chain_laws.proofs.turns_keep_chains.Goals as goal

pub returns : goal.returns
returns c = turns_keep_chains
