use Rattle.replay_laws.proofs.Scripts.{scripts_are_given}
use Rattle.replay_laws.proofs.scripts_are_given.Goals as goal

pub returns : goal.returns
returns c = scripts_are_given
