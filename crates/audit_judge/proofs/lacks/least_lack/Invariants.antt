use Rattle.std.proofs.Common.{◌≡◌, take, []}
use Rattle.std.specs.Prelude.{map}
use Rattle.std.specs.List.{flat_map}
use Rattle.audit_judge.specs.Lacks.{ended_shown, lacks_in}
use Rattle.audit_judge.proofs.lacks.least_lack.Given as goal

abbrev pub invariant-loop-one : goal.invariant-loop-one
invariant-loop-one l = flat_map (lacks_in (map ended_shown l.ended)) (map ended_shown (take l.one-index l.ended)) ≡ []
