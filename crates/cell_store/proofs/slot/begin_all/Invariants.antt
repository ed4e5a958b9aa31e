use Rattle.std.proofs.Common.{◌≡◌, [], map, take, length}
use Rattle.typed_layer.specs.View.{cell_tree}
use Rattle.cell_store.specs.Slots.{AreFirst, slot_rows}
use Rattle.cell_store.proofs.slot.begin_all.Given as goal

abbrev pub invariant-loop-cell : goal.invariant-loop-cell
invariant-loop-cell g l =
    AreFirst l.membership.me l.membership.count l.membership.ltime l.membership.count
    (map cell_tree (take l.cell-index l.cells)) l.block.items l.slots.items
    × ((l.slots.len ≡ l.cell-index) × ((l.slots.cap ≡ length l.cells) × (slot_rows l.slots.items ≡ [])))
