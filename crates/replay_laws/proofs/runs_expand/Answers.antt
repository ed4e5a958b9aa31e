use Rattle.replay_laws.proofs.Replays.{runs_expand}
use Rattle.replay_laws.proofs.runs_expand.Goals as goal

pub returns : goal.returns
returns c = runs_expand
