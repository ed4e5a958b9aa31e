use Rattle.cell_store.proofs.Seen.{number_seen, rows_seen, row_seen, room_seen}
use Rattle.cell_store.proofs.laws.reads_are_seen.Goals as goal

pub returns : goal.returns
returns g c = record { number = number_seen; rows = rows_seen; row = row_seen; room = room_seen }
