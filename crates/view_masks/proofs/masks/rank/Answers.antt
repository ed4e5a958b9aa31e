use Rattle.std.proofs.Common.{◌∙◌, sym, arith, ap, ◌+◌}
use Rattle.view_masks.proofs.Ids.{rank_from, rank_begins, rank_ends, rank_here, rank_past, rank_without}
use Rattle.view_masks.proofs.masks.rank.Goals as goal
use Rattle.view_masks.proofs.masks.rank.Goals.{then-has+else-other-id, else-has}

pub loop-other-init : goal.loop-other-init
loop-other-init c = (omega arith, rank_begins c.args.view c.args.id)

pub returns-then-other-id : goal.returns-then-other-id
returns-then-other-id c =
    let set = sym c.has.ensures ∙ c.if-has.true in
    sym (c.loop-other.invariant.1 ∙ rank_here c.args.view c.args.id c.loop-other.rank c.loop-other.other
    c.loop-other-test.true set c.if-other-id.true)

pub loop-other-preserved : goal.loop-other-preserved
loop-other-preserved c =
    let view = c.args.view in
    let id = c.args.id in
    let rank = c.loop-other.rank in
    let at = c.loop-other.other in elim c.if-has.branch [
      | then-has+else-other-id w ↦ (
        omega (arith, w.rank-is, c.loop-other.invariant.0),
        c.loop-other.invariant.1
            ∙ rank_past view id rank at c.loop-other-test.true (sym c.has.ensures ∙ w.if-has.true) w.if-other-id.false
            ∙ ap (λ count. rank_from view id count (at + 1)) (sym w.rank-is),
      )
      | else-has w ↦ (
        omega (arith, w.rank-is, c.loop-other.invariant.0),
        c.loop-other.invariant.1 ∙ rank_without view id rank at c.loop-other-test.true
            (sym c.has.ensures ∙ w.if-has.false)
            ∙ ap (λ count. rank_from view id count (at + 1)) (sym w.rank-is),
      )
    ]

pub returns : goal.returns
returns c =
    sym (c.loop-other.invariant.1 ∙ rank_ends c.args.view c.args.id c.loop-other.rank c.loop-other.other
    (omega (arith, c.loop-other-test.false)))
