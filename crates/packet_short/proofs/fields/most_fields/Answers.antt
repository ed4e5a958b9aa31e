use Rattle.std.proofs.Common.{◌≡◌, ◌≤◌, max, length, arith, rules}
use Rattle.packet_short.proofs.Keeping.{fields_step}
use Rattle.packet_short.proofs.fields.most_fields.Goals as goal

pub loop-plan-preserved : goal.loop-plan-preserved
loop-plan-preserved c =
    let most : c.max-most.result ≡ max c.loop-plan.most c.len.result = search rules in
    let len : c.len.result ≡ length c.plan-item.result.fields.items = search rules in
    let larger : c.loop-plan.most ≤ c.max-most.result = omega (arith, most) in
    let fits : length c.plan-item.result.fields.items ≤ c.max-most.result = omega (arith, most, len) in
    fields_step c.slice-plan-items.result.now c.loop-plan.plan-index c.plan-item.result c.loop-plan.most
    c.max-most.result c.loop-plan-test.true
    c.plan-item.is c.loop-plan.invariant larger fits
