use Rattle.std.proofs.Common.{arith}
use Rattle.live_layer.proofs.Fill.{all_filled}
use Rattle.live_layer.proofs.takes.set_numbers.Goals as goal

pub returns-clause-numbers : goal.returns-clause-numbers
returns-clause-numbers c =
    let count = c.len-k-end.ensures.count in
    all_filled c.args.slots.now c.args.values.now c.args.numbers.now.items c.loop-k.k c.loop-k.numbers.items
    (omega arith) c.loop-k.invariant.0
