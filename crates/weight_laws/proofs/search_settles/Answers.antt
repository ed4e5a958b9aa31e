use Rattle.weight_laws.proofs.Search.{search_settles}
use Rattle.weight_laws.proofs.search_settles.Goals as goal

pub returns : goal.returns
returns c = search_settles
