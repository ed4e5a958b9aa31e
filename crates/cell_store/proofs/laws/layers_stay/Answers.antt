use Rattle.cell_store.proofs.Seen.{fresh_for, number_for, rows_for, capacity_for, emptied_for}
use Rattle.cell_store.proofs.laws.layers_stay.Goals as goal

pub returns : goal.returns
returns g c = record {
  fresh = fresh_for _;
  number = number_for;
  rows = rows_for;
  capacity = capacity_for;
  emptied =
      emptied_for;
}
