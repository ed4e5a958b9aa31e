use Rattle.pack_laws.proofs.SameActs.{same_acts_follow_alike}
use Rattle.pack_laws.proofs.same_acts_follow_alike.Goals as goal

pub returns : goal.returns
returns c = same_acts_follow_alike
