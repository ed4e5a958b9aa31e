use Rattle.std.proofs.Common.{◌≡◌, [], map, length, replicate}
use Rattle.std.specs.VecDeque.{deque_items, deque_capacity}
use Rattle.cell_store.proofs.rings.Rings.with_capacity.Given as goal

abbrev pub invariant-loop : goal.invariant-loop
invariant-loop g l =
    (l.rings.len ≡ l.counter) ×
    ((l.rings.cap ≡ l.count) × ((map deque_items l.rings.items ≡ replicate (length l.rings.items) [])
    × (map deque_capacity l.rings.items ≡ replicate (length l.rings.items) l.capacity)))
