use Rattle.weight_laws.proofs.Runs.{turns_lighten}
use Rattle.weight_laws.proofs.turns_lighten.Goals as goal

pub returns : goal.returns
returns c = turns_lighten
