use Rattle.file_parse.proofs.Gathered.{item_gathered}
use Rattle.file_parse.proofs.declarations.more_items.Goals as goal

pub loop-following-preserved : goal.loop-following-preserved
loop-following-preserved c =
    rw c.in_ok-push.ensures.items (
    item_gathered _ _ _ _ _ _ c.loop-following.invariant c.in-Some.ensures c.in-Ok.ensures
    )
