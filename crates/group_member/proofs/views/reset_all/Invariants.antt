use Rattle.group_member.specs.Resetting.{IsResetting}
use Rattle.group_member.proofs.views.reset_all.Given as goal

abbrev pub invariant-loop-index : goal.invariant-loop-index
invariant-loop-index l =
    IsResetting l.membership.me l.membership.count l.membership.ltime l.index l.fn.pool l.fn.layers.items l.pool
    l.layers.items
