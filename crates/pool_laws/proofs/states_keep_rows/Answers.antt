use Rattle.pool_laws.proofs.Rows.{states_keep_rows}
use Rattle.pool_laws.proofs.states_keep_rows.Goals as goal

pub returns : goal.returns
returns c = states_keep_rows
