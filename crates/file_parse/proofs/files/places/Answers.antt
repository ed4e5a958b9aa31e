use Rattle.std.proofs.Common.{arith, length-append}
use Rattle.file_parse.proofs.Gathered.{place_gathered}
use Rattle.file_parse.proofs.files.places.Goals as goal

pub loop-alloc-preserved : goal.loop-alloc-preserved
loop-alloc-preserved c =
    rw c.in_ok-push-2.ensures.items ((
      place_gathered _ _ _ _ _ _ _ c.loop-alloc.invariant.0 c.loop-alloc-test.ensures c.in-Ok-place.ensures.read,
      grind (arith, length-append),
    )
    )
