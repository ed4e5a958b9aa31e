use Rattle.std.proofs.Common.{◌≡◌, take}
use Rattle.std.specs.Prelude.{map}
use Rattle.audit_mean.specs.Finding.{least}
use Rattle.audit_judge.specs.Lacks.{ended_shown, lacks_in}
use Rattle.audit_judge.proofs.lacks.lack_of.Given as goal

abbrev pub invariant-loop-other : goal.invariant-loop-other
invariant-loop-other l = l.found ≡ least (lacks_in (map ended_shown (take l.other-index l.ended)) (ended_shown l.one))
