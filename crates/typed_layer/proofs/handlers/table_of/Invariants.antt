use Rattle.std.proofs.Common.{◌≡◌, ◌≤◌, length, drop}
use Rattle.typed_layer.specs.Table.{table_from}
use Rattle.typed_layer.proofs.handlers.table_of.Given as goal

abbrev pub invariant-loop-left : goal.invariant-loop-left
invariant-loop-left l = (l.left ≤ length l.handlers) × (l.table.items ≡ table_from l.left (drop l.left l.handlers))

abbrev pub decreases-loop-left : goal.decreases-loop-left
decreases-loop-left l = l.left
