use Rattle.chain_laws.proofs.Runs.{run_from_a_task}
use Rattle.chain_laws.proofs.run_from_a_task.Goals as goal

pub returns : goal.returns
returns c = run_from_a_task
