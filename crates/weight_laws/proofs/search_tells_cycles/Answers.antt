use Rattle.weight_laws.proofs.Search.{search_tells_cycles}
use Rattle.weight_laws.proofs.search_tells_cycles.Goals as goal

pub returns : goal.returns
returns c = search_tells_cycles
