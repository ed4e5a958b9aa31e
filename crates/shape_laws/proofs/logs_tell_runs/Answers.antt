use Rattle.shape_laws.proofs.Marks.{logs_tell_runs}
use Rattle.shape_laws.proofs.logs_tell_runs.Goals as goal

pub returns : goal.returns
returns c = logs_tell_runs
