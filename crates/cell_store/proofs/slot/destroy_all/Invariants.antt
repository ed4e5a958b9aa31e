use Rattle.std.proofs.Common.{◌≡◌, []}
use Rattle.cell_store.specs.Slots.{slot_rows}
use Rattle.cell_store.proofs.slot.destroy_all.Given as goal

abbrev pub invariant-loop-slot : goal.invariant-loop-slot
invariant-loop-slot g l = slot_rows l.slots.items ≡ []

abbrev pub decreases-loop-slot : goal.decreases-loop-slot
decreases-loop-slot g l = goal.left-loop-slot g l
