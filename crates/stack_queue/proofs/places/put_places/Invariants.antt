use Rattle.std.proofs.Common.{◌≡◌, ◌++◌, drop, length}
use Rattle.stack_queue.specs.Pending.{places_on}
use Rattle.stack_queue.proofs.places.put_places.Given as goal

abbrev pub invariant-loop-k : goal.invariant-loop-k
invariant-loop-k l =
    (l.places.items ++ places_on l.at (drop (length l.places.items) l.events.items) ≡ l.fn.places.items ++
    places_on l.at (drop (length l.fn.places.items) l.events.items))
    × (l.places.capacity ≡ l.fn.places.capacity)
    × (length l.places.items ≡ l.k)
