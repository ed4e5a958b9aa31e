use Rattle.replay_laws.proofs.Steps.{moments_are_steps}
use Rattle.replay_laws.proofs.moments_are_steps.Goals as goal

pub returns : goal.returns
returns c = moments_are_steps
