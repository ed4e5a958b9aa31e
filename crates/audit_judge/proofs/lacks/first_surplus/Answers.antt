use Rattle.std.proofs.Common.{sym, ◌∙◌}
use Rattle.audit_judge.proofs.Surplus.{surplus_further, surplus_same}
use Rattle.audit_judge.proofs.lacks.first_surplus.Goals as goal
use Rattle.audit_judge.proofs.lacks.first_surplus.Goals.{then-exceeds, else-exceeds}

pub loop-delivery-preserved : goal.loop-delivery-preserved
loop-delivery-preserved c =
    λ all counts. elim c.if-exceeds.branch [
      | then-exceeds w ↦ w.found-is ∙ surplus_further c.args.line all c.args.deliveries.now
          c.loop-delivery.delivery-index _ c.loop-delivery.found _ c.loop-delivery-test.true
          (sym (c.exceeds.ensures all counts) ∙ w.if-exceeds.true) (c.loop-delivery.invariant all counts)
          w.first_of-found.ensures
      | else-exceeds w ↦ w.found-is ∙ surplus_same c.args.line all c.args.deliveries.now c.loop-delivery.delivery-index
          _ c.loop-delivery.found c.loop-delivery-test.true (sym (c.exceeds.ensures all counts) ∙ w.if-exceeds.false)
          (c.loop-delivery.invariant all counts)
    ]
