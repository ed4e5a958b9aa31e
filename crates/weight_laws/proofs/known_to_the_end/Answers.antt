use Rattle.weight_laws.proofs.Turns.{known_to_the_end}
use Rattle.weight_laws.proofs.known_to_the_end.Goals as goal

pub returns : goal.returns
returns c = known_to_the_end
