use Rattle.std.proofs.Common.{◌≡◌, ◌≤◌, length}
use Rattle.slot_pool.specs.Held.{spare}
use Rattle.slot_pool.specs.References.{Moved, Covers}
use Rattle.pool_message.specs.Piled.{pile_refs}
use Rattle.pool_message.proofs.messages.Messages.clear.Given as goal

abbrev pub invariant-loop-self : goal.invariant-loop-self
invariant-loop-self l =
    (l.self.capacity ≡ l.fn.self.capacity) × Covers l.pool (pile_refs l.self.items) ×
    Moved l.fn.pool l.pool (pile_refs l.fn.self.items) (pile_refs l.self.items) × (spare l.fn.pool ≤ spare l.pool)

abbrev pub decreases-loop-self : goal.decreases-loop-self
decreases-loop-self l = length l.self.items
