use Rattle.guard_laws.proofs.Forms.{simplified_stays_formed}
use Rattle.guard_laws.proofs.simplified_stays_formed.Goals as goal

pub returns : goal.returns
returns c = simplified_stays_formed
