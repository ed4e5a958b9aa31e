use Rattle.weight_laws.proofs.Built.{tables_tell}
use Rattle.weight_laws.proofs.tables_tell.Goals as goal

pub returns : goal.returns
returns c = tables_tell
