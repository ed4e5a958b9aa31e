use Rattle.std.proofs.Common.{◌≡◌, [], take}
use Rattle.cell_store.specs.Slots.{slot_rows}
use Rattle.cell_store.proofs.slot.first_filled.Given as goal

abbrev pub invariant-loop-cell : goal.invariant-loop-cell
invariant-loop-cell g l = slot_rows (take l.cell l.slots) ≡ []
