use Rattle.std.proofs.Common.{◌-◌, arith, refl}
use Rattle.std.specs.HashMap as hash
use Rattle.audit_judge.specs.Lacks.{same_way}
use Rattle.audit_judge.specs.Marks.{same_item_key}
use Rattle.audit_judge.proofs.Marking.{marks_on, none_marked}
use Rattle.audit_judge.proofs.marks.mark_all.Goals as goal

pub loop-index-init : goal.loop-index-init
loop-index-init c =
    none_marked (hash.get same_item_key c.new-items.result) (hash.get same_way c.new-groups.result) c.args.ended.now _
    refl (λ q. rw c.new-items.ensures.empty refl) (λ q. rw c.new-groups.ensures.empty refl)

pub loop-index-preserved : goal.loop-index-preserved
loop-index-preserved c =
    marks_on (hash.get same_item_key c.loop-index.items) (hash.get same_item_key c.mark_segment.new.items)
    (hash.get same_way c.loop-index.groups) (hash.get same_way c.insert.new.self) c.args.ended.now c.loop-index.index
    (c.loop-index.index - 1) _ c.index-ended-index.result c.group_at-following.result c.group_with.result (omega arith)
    (omega arith) c.index-ended-index.is c.loop-index.invariant c.group_at-following.ensures c.group_with.ensures
    c.in_ok-mark_segment.ensures c.in_ok-insert.ensures.updates.0
