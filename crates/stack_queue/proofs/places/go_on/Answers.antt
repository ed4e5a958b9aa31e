use Rattle.std.proofs.Common.{sym, ◌∙◌}
use Rattle.stack_queue.proofs.Lists.{alone_goes_on, goes_after}
use Rattle.stack_queue.proofs.places.go_on.Goals as goal

pub returns-then-len-eq1-2 : goal.returns-then-len-eq1-2
returns-then-len-eq1-2 c = alone_goes_on c.args.at c.args.places.now.items c.args.events.now.items c.first_way.result
    c.beyond.result c.args.places.now.capacity _
    (sym c.len.ensures.len ∙ c.if-len-eq1.true) (sym c.len-then-len-eq1.ensures.count ∙ c.if-len-eq1-2.true)
    c.beyond.ensures c.first_way.ensures c.stand_alone.ensures

pub returns : goal.returns
returns c = goes_after c.args.at c.args.places.now.items c.args.events.now.items c.args.places.now.capacity _ _
    c.end_first.ensures c.put_places.ensures
