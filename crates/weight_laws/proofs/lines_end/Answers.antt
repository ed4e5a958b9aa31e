use Rattle.weight_laws.proofs.Runs.{lines_end}
use Rattle.weight_laws.proofs.lines_end.Goals as goal

pub returns : goal.returns
returns c = lines_end
