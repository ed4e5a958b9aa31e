use Rattle.std.proofs.Common.{◌≡◌, ◌≤◌, ◌+◌, ◌++◌, length, drop}
use Rattle.file_mean.specs.Names.{in_slots}
use Rattle.file_slots.specs.Visible.{entries}
use Rattle.file_slots.proofs.visible.Visible.bring.Given as goal

abbrev pub invariant-loop-left : goal.invariant-loop-left
invariant-loop-left l = record {
  within : l.left ≤ length l.new;
  first : l.first ≡ l.fn.self.taken;
  taken : l.self-inside.taken ≡ l.fn.self.taken;
  entries : entries l.self-inside.slots.items ≡ in_slots (l.first + l.left) (drop l.left l.new) ++ l.fn.self.names;
}

abbrev pub decreases-loop-left : goal.decreases-loop-left
decreases-loop-left l = l.left
