use Rattle.std.proofs.Common.{take}
use Rattle.std.specs.HashMap as hash
use Rattle.audit_judge.specs.Marks.{same_item_key}
use Rattle.audit_judge.proofs.Marking.{IsMarkedBy}
use Rattle.audit_judge.proofs.marks.mark_segment.Given as goal

abbrev pub invariant-loop-delivery : goal.invariant-loop-delivery
invariant-loop-delivery l =
    IsMarkedBy (hash.get same_item_key l.fn.items) (hash.get same_item_key l.items) l.following l.one
    (take l.delivery-index l.delivery-items)
