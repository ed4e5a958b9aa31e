use Rattle.weight_laws.proofs.Runs.{runs_end}
use Rattle.weight_laws.proofs.runs_end.Goals as goal

pub returns : goal.returns
returns c = runs_end
