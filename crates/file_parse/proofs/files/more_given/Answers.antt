use Rattle.file_parse.proofs.Gathered.{given_gathered}
use Rattle.file_parse.proofs.files.more_given.Goals as goal

pub loop-following-preserved : goal.loop-following-preserved
loop-following-preserved c =
    rw c.in_ok-push-2.ensures.items (
    given_gathered _ _ _ _ _ _ _ c.loop-following.invariant c.in-Some.ensures c.in-Ok.ensures
    )
