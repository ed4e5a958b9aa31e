use Rattle.family_search.specs.Trying.{Grows}
use Rattle.family_search.proofs.trying.search.Given as goal

abbrev pub invariant-loop-left : goal.invariant-loop-left
invariant-loop-left g l = Grows (g.T.Trial.family l.fn.trial) l.left (g.T.Trial.family l.trial) l.past.items
