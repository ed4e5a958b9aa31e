use Rattle.chain_laws.proofs.Runs.{runs_keep_chains}
use Rattle.chain_laws.proofs.runs_keep_chains.Goals as goal

pub returns : goal.returns
returns c = runs_keep_chains
