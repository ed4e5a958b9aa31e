use Rattle.order_laws.proofs.First.{told_are_first}
use Rattle.order_laws.proofs.told_are_first.Goals as goal

pub returns : goal.returns
returns c = told_are_first
