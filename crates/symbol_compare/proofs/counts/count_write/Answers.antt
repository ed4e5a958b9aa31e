use Rattle.std.proofs.Common.{refl}
use Rattle.symbol_compare.proofs.Counting.{counted}
use Rattle.symbol_compare.proofs.counts.count_write.Goals as goal

pub returns : goal.returns
returns c = counted c.args.counts.now _ c.args.place c.args.cell c.count_of-count.result _ c.count_of-count.ensures refl
    c.in_ok-insert.ensures.updates.0
