use Rattle.pack_laws.proofs.SafeActs.{same_acts_are_safe}
use Rattle.pack_laws.proofs.same_acts_are_safe.Goals as goal

pub returns : goal.returns
returns c = same_acts_are_safe
