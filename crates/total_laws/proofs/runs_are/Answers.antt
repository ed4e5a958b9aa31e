use Rattle.total_laws.proofs.Walks.{runs_are}
use Rattle.total_laws.proofs.runs_are.Goals as goal

pub returns : goal.returns
returns c = runs_are
