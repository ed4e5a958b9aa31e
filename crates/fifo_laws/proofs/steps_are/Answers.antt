use Rattle.fifo_laws.proofs.Steps.{steps_are}
use Rattle.fifo_laws.proofs.steps_are.Goals as goal

pub returns : goal.returns
returns c = steps_are
