use Rattle.std.proofs.Common.{rules}
use Rattle.file_lower.proofs.Rows.{slots_more}
use Rattle.file_lower.proofs.row.slots.Goals as goal

pub loop-k-preserved : goal.loop-k-preserved
loop-k-preserved c =
    slots_more c.loop-k.all.items _ c.args.first c.loop-k.k _ c.loop-k.invariant (search rules)
    c.in_ok-push.ensures.items
