use Rattle.std.proofs.Common.{take}
use Rattle.std.specs.Prelude.{map}
use Rattle.std.specs.HashMap as hash
use Rattle.audit_judge.specs.Clashes.{same_place_key}
use Rattle.audit_judge.specs.Places.{lists_shown, placed_shown}
use Rattle.audit_judge.proofs.Agree.{Agreed}
use Rattle.audit_judge.proofs.clashes.least_clash.Given as goal

abbrev pub invariant-loop-index : goal.invariant-loop-index
invariant-loop-index l = Agreed (lists_shown l.lists) (hash.get same_place_key l.agreed)
    (map placed_shown (take l.index l.placed))
