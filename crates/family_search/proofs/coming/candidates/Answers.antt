use Rattle.family_search.proofs.Dues.{acts_more, no_gives, all_more}
use Rattle.family_search.proofs.coming.candidates.Goals as goal

pub loop-index-preserved : goal.loop-index-preserved
loop-index-preserved c = acts_more _ _ _ c.loop-index.invariant c.in_ok-push.ensures.items

pub loop-packet-init : goal.loop-packet-init
loop-packet-init c = no_gives _ _ _ _ c.loop-index.invariant c.loop-index-test.false

pub loop-packet-preserved : goal.loop-packet-preserved
loop-packet-preserved c = all_more _ _ _ _ _ c.loop-packet.invariant c.in_ok-push_gives.ensures
