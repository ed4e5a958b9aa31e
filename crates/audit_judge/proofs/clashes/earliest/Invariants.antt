use Rattle.std.proofs.Common.{◌≡◌, drop}
use Rattle.std.specs.Prelude.{map}
use Rattle.std.specs.List.{find}
use Rattle.audit_mean.specs.Clash as spec
use Rattle.audit_judge.specs.Places.{lists_shown, placed_shown}
use Rattle.audit_judge.proofs.clashes.earliest.Given as goal

abbrev pub invariant-loop-other : goal.invariant-loop-other
invariant-loop-other l =
    find (spec.clashes (lists_shown l.lists) (placed_shown l.entry)) (map placed_shown (drop l.other-index l.front)) ≡
    find (spec.clashes (lists_shown l.lists) (placed_shown l.entry)) (map placed_shown l.front)
