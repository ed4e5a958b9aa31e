use Rattle.fifo_laws.proofs.Visits.{cast_comes_up}
use Rattle.fifo_laws.proofs.cast_comes_up.Goals as goal

pub returns : goal.returns
returns c = cast_comes_up
