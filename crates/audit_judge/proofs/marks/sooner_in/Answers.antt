use Rattle.std.proofs.Common.{arith, ap, ◌∙◌}
use Rattle.std.specs.Prelude.{fold}
use Rattle.std.specs.HashMap as hash
use Rattle.audit_judge.specs.Lacks.{same_way}
use Rattle.audit_judge.specs.Marks.{lack_line, same_item_key, sooner, sooner_of}
use Rattle.audit_judge.proofs.Clear.{all_folded, folded_on}
use Rattle.audit_judge.proofs.marks.sooner_in.Goals as goal

pub loop-delivery-preserved : goal.loop-delivery-preserved
loop-delivery-preserved c =
    let items = hash.get same_item_key c.args.marks.now.items in
    let groups = hash.get same_way c.args.marks.now.groups in
    let mark = c.mark_at-mark.ensures ∙ ap items c.item_of.ensures in
    c.sooner-found.ensures
    ∙ (λ i. sooner c.loop-delivery.found
    ((c.lack_line.ensures ∙ (λ j. lack_line (mark j) (c.group_at-group.ensures j))) i))
    ∙ folded_on (sooner_of items groups c.args.one.now.way) c.args.found c.loop-delivery.found
    c.deref-delivery-items.result.now c.loop-delivery.delivery-index _ (omega arith) c.loop-delivery.invariant

pub returns : goal.returns
returns c =
    let line = sooner_of (hash.get same_item_key c.args.marks.now.items) (hash.get same_way c.args.marks.now.groups)
    c.args.one.now.way in
    all_folded line c.args.found c.loop-delivery.found c.deref-delivery-items.result.now c.loop-delivery.delivery-index
    (omega arith) c.loop-delivery.invariant
    ∙ ap (fold line c.args.found) c.deref-delivery-items.ensures.value
