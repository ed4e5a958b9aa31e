use Rattle.std.proofs.Common.{length}
use Rattle.family_search.specs.Trying.{Goes}
use Rattle.family_search.proofs.trying.+all_keep.Given as goal

abbrev pub decreases-all_keep : goal.decreases-all_keep
decreases-all_keep g l = l.left

abbrev pub invariant-loop-choice : goal.invariant-loop-choice
invariant-loop-choice g l = Goes (g.T.Trial.family l.fn.trial) l.left l.fn.past.items l.depth
    (g.T.Trial.family l.trial) l.past.items l.next.items

abbrev pub decreases-loop-choice : goal.decreases-loop-choice
decreases-loop-choice g l = length l.next.items
