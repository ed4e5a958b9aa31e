use Rattle.group_member.proofs.Making.{last_is, left_after}
use Rattle.group_member.proofs.opens.close_layers.Goals as goal

pub close-requires-clause-covers : goal.close-requires-clause-covers
close-requires-clause-covers c =
    let last = last_is c.loop-layer.pool c.loop-layer.layers.items c.pop.new.self.items c.in-Some.layer
    c.in-Some.ensures.items
    c.loop-layer.invariant in
    last.covers

pub loop-layer-preserved : goal.loop-layer-preserved
loop-layer-preserved c = left_after c.loop-layer.pool c.close.new.pool c.loop-layer.layers.items c.pop.new.self.items
    c.in-Some.layer
    c.in-Some.ensures.items
    c.loop-layer.invariant c.close.ensures
