use Rattle.cell_store.proofs.Undone.{weigh_rows, weigh_last, weigh_first, none_at_first}
use Rattle.cell_store.proofs.laws.rows_weigh.Goals as goal

pub returns : goal.returns
returns g c = record { rows = weigh_rows; last = weigh_last; fresh = none_at_first _; first = weigh_first }
