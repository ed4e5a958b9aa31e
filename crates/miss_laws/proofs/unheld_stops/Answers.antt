use Rattle.miss_laws.proofs.Stops.{unheld_stops}
use Rattle.miss_laws.proofs.unheld_stops.Goals as goal

pub returns : goal.returns
returns c = unheld_stops
