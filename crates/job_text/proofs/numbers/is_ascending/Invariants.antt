use Rattle.std.proofs.Common.{◌≡◌, length}
use Rattle.job_mean.specs.Job as spec
use Rattle.job_text.proofs.numbers.is_ascending.Given as goal

abbrev pub invariant-loop-left : goal.invariant-loop-left
invariant-loop-left l = spec.is_ascending l.left ≡ spec.is_ascending l.fn.numbers

abbrev pub decreases-loop-left : goal.decreases-loop-left
decreases-loop-left l = length l.left
