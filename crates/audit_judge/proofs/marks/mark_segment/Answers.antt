use Rattle.std.proofs.Common.{arith, ap, ◌∙◌, subst}
use Rattle.std.specs.HashMap as hash
use Rattle.audit_judge.specs.Marks.{mark_with, same_item_key}
use Rattle.audit_judge.proofs.Marking.{IsMarkedBy, all_marked, item_answers, marked_on}
use Rattle.audit_judge.proofs.marks.mark_segment.Goals as goal

pub loop-delivery-preserved : goal.loop-delivery-preserved
loop-delivery-preserved c =
    let f = hash.get same_item_key c.loop-delivery.items in
    marked_on (hash.get same_item_key c.args.items.now) f (hash.get same_item_key c.insert.new.self) c.args.following
    c.args.one.now c.deref-delivery-items.result.now c.loop-delivery.delivery-index _ c.item_of-item.result
    c.mark_with-mark.result (omega arith) (item_answers c.loop-delivery.items) c.loop-delivery.invariant
    c.item_of-item.ensures
    (c.mark_with-mark.ensures ∙ ap (λ o. mark_with o c.args.following c.args.one.now.member c.args.one.now.line)
    c.mark_at.ensures)
    c.in_ok-insert.ensures.updates.0

pub returns : goal.returns
returns c =
    let old = hash.get same_item_key c.args.items.now in
    let new = hash.get same_item_key c.loop-delivery.items in
    subst (IsMarkedBy old new c.args.following c.args.one.now) c.deref-delivery-items.ensures.value
    (all_marked old new c.args.following c.args.one.now c.deref-delivery-items.result.now c.loop-delivery.delivery-index
    (omega arith) c.loop-delivery.invariant)
