use Rattle.fifo_laws.proofs.Visits.{cast_goes_down}
use Rattle.fifo_laws.proofs.cast_goes_down.Goals as goal

pub returns : goal.returns
returns c = cast_goes_down
