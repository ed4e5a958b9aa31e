use Rattle.std.proofs.Common.{length}
use Rattle.group_world.proofs.members.close_all.Given as goal

abbrev pub invariant-loop-member : goal.invariant-loop-member
invariant-loop-member l = Unit {0}

abbrev pub decreases-loop-member : goal.decreases-loop-member
decreases-loop-member l = length l.members.items
