use Rattle.file_laws.proofs.SmallFiles.{queues_are_typed}
use Rattle.file_laws.proofs.samples.queues_are_typed.Goals as goal

pub returns : goal.returns
returns c = queues_are_typed
