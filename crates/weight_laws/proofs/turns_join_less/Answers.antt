use Rattle.weight_laws.proofs.Runs.{turns_join_less}
use Rattle.weight_laws.proofs.turns_join_less.Goals as goal

pub returns : goal.returns
returns c = turns_join_less
