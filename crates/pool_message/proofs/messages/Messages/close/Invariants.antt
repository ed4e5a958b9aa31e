use Rattle.std.proofs.Common.{◌≡◌, None}
use Rattle.std.specs.List.{AllByRecursion}
use Rattle.pool_message.proofs.messages.Messages.close.Given as goal

abbrev pub invariant-loop-message : goal.invariant-loop-message
invariant-loop-message l = AllByRecursion (λ m. m.body ≡ None) l.places.items

abbrev pub decreases-loop-message : goal.decreases-loop-message
decreases-loop-message l = goal.left-loop-message l
