use Rattle.script_text.proofs.Draws.{all_drawn, none_drawn, one_drawn}
use Rattle.script_text.proofs.datagram.add_small.Goals as goal

pub loop-init : goal.loop-init
loop-init c = none_drawn c.args.count c.args.bytes.now.items c.args.seed.now.value

pub loop-preserved : goal.loop-preserved
loop-preserved c =
    rw c.in_ok-push.ensures.items
    (one_drawn c.args.count c.loop.counter c.args.bytes.now.items c.loop.bytes.items c.args.seed.now.value
    c.loop.seed.value c.below.result c.below.new.self.value c.loop-test.true c.loop.invariant c.below.ensures.drawn)

pub returns : goal.returns
returns c = all_drawn c.args.count c.loop.counter c.args.bytes.now.items c.loop.bytes.items c.args.seed.now.value
    c.loop.seed.value c.loop-test.false c.loop.invariant
