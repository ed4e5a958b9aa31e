use Rattle.member_laws.proofs.Ends.{steps_end}
use Rattle.member_laws.proofs.steps_end.Goals as goal

pub returns : goal.returns
returns c = steps_end
