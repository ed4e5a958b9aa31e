use Rattle.std.proofs.Common.{◌≡◌, ◌≤◌, map, take, drop, length}
use Rattle.typed_layer.specs.View.{cell_tree}
use Rattle.cell_store.specs.Slots.{AreFirst}
use Rattle.cell_store.proofs.slot.restart_all.Given as goal

abbrev pub invariant-loop-index : goal.invariant-loop-index
invariant-loop-index g l = record {
  first : AreFirst l.membership.me l.membership.count l.membership.ltime l._most
      (map cell_tree (take l.index l.cells)) l.block.items (take l.index l.slots.items);
  left : drop l.index l.slots.items ≡ drop l.index l.fn.slots.items;
  size : length l.slots.items ≡ length l.fn.slots.items;
  capacity : l.fn.block.cap ≤ l.block.cap;
}
