use Rattle.std.proofs.Common.{◌≡◌, ◌-◌, ◌++◌, drop, length}
use Rattle.stack_judge.specs.Answer.{stack_tree}
use Rattle.report_lines.specs.Nones.{slashed_headers}
use Rattle.report_lines.proofs.chain.push_all.Given as goal

abbrev pub invariant-loop-k : goal.invariant-loop-k
invariant-loop-k l = l.line ++ slashed_headers (stack_tree l.stack) (drop l.k l.headers) ≡ l.initial.line ++
    slashed_headers (stack_tree l.stack) l.headers

abbrev pub decreases-loop-k : goal.decreases-loop-k
decreases-loop-k l = length l.headers - l.k
