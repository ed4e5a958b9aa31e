use Rattle.std.proofs.Common.{◌≡◌, take}
use Rattle.std.specs.Prelude.{min}
use Rattle.trace_core.specs.Trees.{trace_tree}
use Rattle.trace_mean.specs.Counts.{trace_joins}
use Rattle.pack_judge.proofs.joins.trace_joins.Given as goal

abbrev pub invariant-loop-number : goal.invariant-loop-number
invariant-loop-number l = l.joins ≡ min (trace_joins (take l.number (trace_tree l.trace))) 4294967295
