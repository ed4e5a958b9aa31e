use Rattle.std.proofs.Common.{◌≡◌, [], take}
use Rattle.cell_store.specs.Kept.{rows_of}
use Rattle.cell_store.specs.Rings.{shown_rows}
use Rattle.cell_store.proofs.rings.first_filled.Given as goal

abbrev pub invariant-loop-index : goal.invariant-loop-index
invariant-loop-index g l = rows_of (take l.index (shown_rows l.shown l.rings)) ≡ []
