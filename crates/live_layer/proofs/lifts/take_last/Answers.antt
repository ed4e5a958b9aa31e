use Rattle.live_layer.proofs.Lists.{some_off, none_off}
use Rattle.live_layer.proofs.lifts.take_last.Goals as goal

pub returns-clause-some : goal.returns-clause-some
returns-clause-some c = some_off c.args.hand.now c.pop.new.self c.pop.result c.pop.ensures.last c.pop.ensures.rest

pub returns-clause-none : goal.returns-clause-none
returns-clause-none c = none_off c.args.hand.now c.pop.new.self c.pop.result c.pop.ensures.last c.pop.ensures.rest
