use Rattle.cell_store.proofs.Seen.{set_seen, rows_set_seen, last_seen, front_seen, fresh_seen}
use Rattle.cell_store.proofs.laws.changes_are_seen.Goals as goal

pub returns : goal.returns
returns g c = record {
  number = set_seen;
  rows = rows_set_seen;
  last = last_seen;
  first = front_seen;
  fresh =
      fresh_seen;
}
