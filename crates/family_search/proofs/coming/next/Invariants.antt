use Rattle.std.proofs.Common.{length}
use Rattle.family_search.specs.Coming.{AreSorted}
use Rattle.family_search.proofs.coming.next.Given as goal

abbrev pub invariant-loop-choice : goal.invariant-loop-choice
invariant-loop-choice g l =
    AreSorted (g.T.Trial.family l.fn.trial) l.past (g.T.Trial.family l.trial) l.all.items l.next.items

abbrev pub decreases-loop-choice : goal.decreases-loop-choice
decreases-loop-choice g l = length l.all.items
