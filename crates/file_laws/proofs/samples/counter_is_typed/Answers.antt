use Rattle.file_laws.proofs.SmallFiles.{counter_is_typed}
use Rattle.file_laws.proofs.samples.counter_is_typed.Goals as goal

pub returns : goal.returns
returns c = counter_is_typed
