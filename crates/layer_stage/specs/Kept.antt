-- The messages that the rows of a state keep.
use Rattle.std.specs.Prelude.{ℕ, Bool, is_some}
use Rattle.std.specs.List.{sum_by, count_by}
use Rattle.layer_mean.specs.declared.run.Row.{Row}
use Rattle.layer_mean.specs.State.{State, Contents, numbers, queues}

abbrev pub has_message : Row → Bool
has_message row = is_some row.message

-- How many rows of a cell's queues have messages; a cell of numbers has none.
abbrev pub rows_kept : Contents → ℕ
rows_kept (numbers ns) = 0
rows_kept (queues qs) = sum_by (count_by has_message) qs

-- How many rows of a state have messages.
abbrev pub messages_kept : State → ℕ
messages_kept s = sum_by rows_kept s.cells
