use Rattle.group_member.proofs.Restarting.{among_next}
use Rattle.group_member.proofs.restarts.are_among.Goals as goal

pub loop-layer-init : goal.loop-layer-init
loop-layer-init c = record { counts = λ p. tt }

pub loop-layer-preserved : goal.loop-layer-preserved
loop-layer-preserved c = among_next c.args.count c.args.layers.now c.loop-layer.layer-index c.layer-item.result
    c.count-now.result c.loop-layer-test.true
    c.layer-item.is c.loop-layer.invariant c.count-now.ensures.count c.if-now-count.false
