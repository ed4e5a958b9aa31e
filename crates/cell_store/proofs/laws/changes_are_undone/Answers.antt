use Rattle.cell_store.proofs.Undone.{first_undone, last_undone}
use Rattle.cell_store.proofs.laws.changes_are_undone.Goals as goal

pub returns : goal.returns
returns g c = record { first = first_undone; last = last_undone }
