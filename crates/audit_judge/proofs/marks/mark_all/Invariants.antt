use Rattle.std.proofs.Common.{drop}
use Rattle.std.specs.Prelude.{map}
use Rattle.std.specs.HashMap as hash
use Rattle.audit_judge.specs.Lacks.{ended_shown, same_way}
use Rattle.audit_judge.specs.Marks.{Marked, same_item_key}
use Rattle.audit_judge.proofs.marks.mark_all.Given as goal

abbrev pub invariant-loop-index : goal.invariant-loop-index
invariant-loop-index l = Marked (hash.get same_item_key l.items) (hash.get same_way l.groups)
    (map ended_shown (drop l.index l.ended))
