use Rattle.total_laws.proofs.Law.{delivers_first}
use Rattle.total_laws.proofs.delivers_first.Goals as goal

pub returns : goal.returns
returns c = delivers_first
