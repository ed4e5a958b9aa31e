use Rattle.std.proofs.Common.{◌≡◌, None, take}
use Rattle.std.specs.Prelude.{fold}
use Rattle.std.specs.HashMap as hash
use Rattle.audit_judge.specs.Lacks.{same_way}
use Rattle.audit_judge.specs.Marks.{same_item_key, sooner_in}
use Rattle.audit_judge.proofs.marks.first_lacking.Given as goal

abbrev pub invariant-loop-one : goal.invariant-loop-one
invariant-loop-one l = l.found ≡
    fold (sooner_in (hash.get same_item_key l.marks.items) (hash.get same_way l.marks.groups)) None
    (take l.one-index l.ended)
