use Rattle.std.proofs.Common.{◌≡◌, ◌==◌, length}
use Rattle.std.specs.List.{slice_split}
use Rattle.script_text.specs.Parts.{parts_after}
use Rattle.job_mean.specs.Job as spec
use Rattle.job_text.proofs.Words.{with_front}
use Rattle.job_text.proofs.numbers.members_in.Given as goal

abbrev pub invariant-loop-rest : goal.invariant-loop-rest
invariant-loop-rest l =
    with_front l.members.items (spec.members_in (parts_after 44 l.rest)) ≡ spec.members_in
    (slice_split (λ byte. byte == 44) l.fn.text)

abbrev pub decreases-loop-rest : goal.decreases-loop-rest
decreases-loop-rest l = length (parts_after 44 l.rest)
