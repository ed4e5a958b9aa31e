use Rattle.file_laws.proofs.SmallFiles.{counter_runs}
use Rattle.file_laws.proofs.samples.counter_runs.Goals as goal

pub returns : goal.returns
returns c = counter_runs
