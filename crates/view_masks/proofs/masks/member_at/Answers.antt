use Rattle.std.proofs.Common.{◌∙◌, sym, arith, ap, ◌+◌}
use Rattle.view_masks.proofs.Ranked.{ranked_from, ranked_begins, ranked_ends, ranked_here, ranked_past, ranked_without}
use Rattle.view_masks.proofs.masks.member_at.Goals as goal
use Rattle.view_masks.proofs.masks.member_at.Goals.{then-has+else-left-eq0, else-has}

pub loop-id-init : goal.loop-id-init
loop-id-init c = ranked_begins c.args.view c.args.rank

pub returns-then-left-eq0 : goal.returns-then-left-eq0
returns-then-left-eq0 c =
    let set = sym c.has.ensures ∙ c.if-has.true in
    sym (c.loop-id.invariant ∙ ranked_here c.args.view c.loop-id.left c.loop-id.id c.loop-id-test.true set
    c.if-left-eq0.true)

pub loop-id-preserved : goal.loop-id-preserved
loop-id-preserved c =
    let view = c.args.view in
    let left = c.loop-id.left in
    let id = c.loop-id.id in elim c.if-has.branch [
      | then-has+else-left-eq0 w ↦
          c.loop-id.invariant
          ∙ ranked_past view left c.if-has.left id c.loop-id-test.true (sym c.has.ensures ∙ w.if-has.true)
          (omega (arith, w.left-is, w.if-left-eq0.false))
      | else-has w ↦
          c.loop-id.invariant ∙ ranked_without view left id c.loop-id-test.true (sym c.has.ensures ∙ w.if-has.false)
          ∙ ap (λ rank. ranked_from view rank (id + 1)) (sym w.left-is)
    ]

pub returns : goal.returns
returns c = sym (c.loop-id.invariant ∙ ranked_ends c.args.view c.loop-id.left c.loop-id.id
    (omega (arith, c.loop-id-test.false)))
