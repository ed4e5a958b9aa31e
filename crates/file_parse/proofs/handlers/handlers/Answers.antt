use Rattle.file_parse.proofs.Gathered.{handler_gathered}
use Rattle.file_parse.proofs.handlers.handlers.Goals as goal

pub loop-alloc-preserved : goal.loop-alloc-preserved
loop-alloc-preserved c =
    rw c.in_ok-push.ensures.items (
    handler_gathered _ _ _ _ _ _ c.loop-alloc.invariant c.loop-alloc-test.ensures c.in-Ok.ensures.read
    )
