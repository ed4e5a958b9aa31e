use Rattle.std.proofs.Common.{map}
use Rattle.trace_core.specs.Trees.{trace_tree}
use Rattle.pack_judge.specs.Due.{plans_cases}
use Rattle.pack_judge.proofs.Plans.{GoesThrough}
use Rattle.pack_judge.proofs.cases.fill_plans.Given as goal

abbrev pub invariant-loop-number : goal.invariant-loop-number
invariant-loop-number l = GoesThrough (plans_cases l.fn.own) (map trace_tree l.fn.traces.items) l.number l.own.items
    (map trace_tree l.traces.items)
