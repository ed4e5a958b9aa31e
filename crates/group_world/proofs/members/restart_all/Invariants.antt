use Rattle.group_world.proofs.Restarting.{AreAgainTo}
use Rattle.group_world.proofs.members.restart_all.Given as goal

abbrev pub invariant-loop-id : goal.invariant-loop-id
invariant-loop-id l = AreAgainTo l.view l.id l.fn.members.items l.members.items
