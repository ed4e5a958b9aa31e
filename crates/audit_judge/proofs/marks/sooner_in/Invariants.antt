use Rattle.std.proofs.Common.{◌≡◌, take}
use Rattle.std.specs.Prelude.{fold}
use Rattle.std.specs.HashMap as hash
use Rattle.audit_judge.specs.Lacks.{same_way}
use Rattle.audit_judge.specs.Marks.{same_item_key, sooner_of}
use Rattle.audit_judge.proofs.marks.sooner_in.Given as goal

abbrev pub invariant-loop-delivery : goal.invariant-loop-delivery
invariant-loop-delivery l =
    l.found ≡ fold (sooner_of (hash.get same_item_key l.marks.items) (hash.get same_way l.marks.groups) l.one.way)
    l.fn.found (take l.delivery-index l.delivery-items)
