use Rattle.replay_laws.proofs.Missed.{predicted_decide_all}
use Rattle.replay_laws.proofs.predicted_decide_all.Goals as goal

pub returns : goal.returns
returns c = predicted_decide_all
