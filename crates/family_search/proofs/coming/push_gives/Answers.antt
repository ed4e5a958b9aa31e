use Rattle.family_search.proofs.Dues.{gives_more}
use Rattle.family_search.proofs.coming.push_gives.Goals as goal

pub loop-id-preserved : goal.loop-id-preserved
loop-id-preserved c = gives_more _ _ _ _ _ c.loop-id.invariant c.in_ok-push.ensures.items
