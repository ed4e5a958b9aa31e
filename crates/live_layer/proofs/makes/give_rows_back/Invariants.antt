use Rattle.std.proofs.Common.{◌≡◌, length}
use Rattle.cell_store.specs.Kept.{rows_in, emptied}
use Rattle.live_layer.specs.Back.{GoneTo}
use Rattle.live_layer.proofs.makes.give_rows_back.Given as goal

abbrev pub invariant-loop-row : goal.invariant-loop-row
invariant-loop-row l = GoneTo l.fn.pool l.pool (rows_in l.fn.cells) (rows_in l.cells) ×
    (emptied l.cells ≡ emptied l.fn.cells)

abbrev pub decreases-loop-row : goal.decreases-loop-row
decreases-loop-row l = length (rows_in l.cells)
