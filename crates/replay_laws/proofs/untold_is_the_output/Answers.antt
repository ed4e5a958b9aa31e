use Rattle.replay_laws.proofs.Told.{untold_is_the_output}
use Rattle.replay_laws.proofs.untold_is_the_output.Goals as goal

pub returns : goal.returns
returns c = untold_is_the_output
