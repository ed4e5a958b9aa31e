use Rattle.order_laws.proofs.Told.{told_keep}
use Rattle.order_laws.proofs.told_keep.Goals as goal

pub returns : goal.returns
returns c = told_keep
