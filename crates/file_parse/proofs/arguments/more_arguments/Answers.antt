use Rattle.file_parse.proofs.Gathered.{argument_gathered}
use Rattle.file_parse.proofs.arguments.more_arguments.Goals as goal

pub loop-following-preserved : goal.loop-following-preserved
loop-following-preserved c =
    rw c.in_ok-push_item.ensures (
    argument_gathered _ _ _ _ _ _ _ c.loop-following.invariant c.in-Some.ensures c.in-Ok.ensures
    )
