use Rattle.std.proofs.Common.{◌≡◌, [], map, length, replicate}
use Rattle.std.specs.VecDeque.{deque_items}
use Rattle.cell_store.proofs.rings.destroy_rings.Given as goal

abbrev pub invariant-loop-ring : goal.invariant-loop-ring
invariant-loop-ring g l = map deque_items l.rings.items ≡ replicate (length l.rings.items) []

abbrev pub decreases-loop-ring : goal.decreases-loop-ring
decreases-loop-ring g l = goal.left-loop-ring g l
