use Rattle.std.proofs.Common.{◌≡◌, None}
use Rattle.std.specs.List.{AllByRecursion}
use Rattle.pool_message.proofs.list.List.close.Given as goal

abbrev pub invariant-loop-direction : goal.invariant-loop-direction
invariant-loop-direction l = AllByRecursion (λ x. x.1.message ≡ None) l.slots.items

abbrev pub decreases-loop-direction : goal.decreases-loop-direction
decreases-loop-direction l = goal.left-loop-direction l
