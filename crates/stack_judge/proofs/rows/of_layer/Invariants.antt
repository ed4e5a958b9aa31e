use Rattle.std.proofs.Common.{◌≡◌, map, take}
use Rattle.std.specs.List.{sum_by}
use Rattle.stack_mean.specs.Acceptance.{held_at_most}
use Rattle.typed_layer.specs.View.{cell_tree}
use Rattle.stack_judge.specs.Rows.{rows_of_cell}
use Rattle.stack_judge.proofs.rows.of_layer.Given as goal

abbrev pub invariant-loop-cell : goal.invariant-loop-cell
invariant-loop-cell l = l.sum ≡
    held_at_most (sum_by (rows_of_cell l.n) (map cell_tree (take l.cell-index l.cell-items)))
