use Rattle.std.proofs.Common.{◌≡◌, ◌≤◌, length}
use Rattle.slot_pool.specs.Held.{spare}
use Rattle.slot_pool.specs.References.{Moved, Covers}
use Rattle.pool_message.specs.Sent.{sent_refs}
use Rattle.pool_message.proofs.events.Events.clear.Given as goal

abbrev pub invariant-loop-self : goal.invariant-loop-self
invariant-loop-self l =
    (l.self.capacity ≡ l.fn.self.capacity) × Covers l.pool (sent_refs l.self.items) ×
    Moved l.fn.pool l.pool (sent_refs l.fn.self.items) (sent_refs l.self.items) × (spare l.fn.pool ≤ spare l.pool)

abbrev pub decreases-loop-self : goal.decreases-loop-self
decreases-loop-self l = length l.self.items
