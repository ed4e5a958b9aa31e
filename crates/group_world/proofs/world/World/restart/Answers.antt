use Rattle.group_world.proofs.Restarting.{seated_again, stands_again, stays_again}
use Rattle.group_world.proofs.world.World.restart.Goals as goal

pub invariant_of-self : goal.invariant_of-self
invariant_of-self c = seated_again _ _ _ _ _ c.self.inside.members.items
    c.restart_all.new.members.items c.self.invariant
    c.if-restart_all.ensures.seats

pub returns-then-restart_all-clause-again : goal.returns-then-restart_all-clause-again
returns-then-restart_all-clause-again c = stands_again _ _ _ _ _ c.self.inside.members.items
    c.restart_all.new.members.items _ _ _ c.self.view_is
    c.self.invariant c.if-restart_all.ensures c.clear.ensures

pub returns-then-restart_all-clause-stays : goal.returns-then-restart_all-clause-stays
returns-then-restart_all-clause-stays c = stays_again _ _ _ _ _ c.self.inside.members.items
    c.restart_all.new.members.items _ _ _ c.self.view_is
    c.if-restart_all.ensures.seats

pub invariant_of-self-else-restart_all : goal.invariant_of-self-else-restart_all
invariant_of-self-else-restart_all c = seated_again
    _ _ _ _ _ c.self.inside.members.items c.restart_all.new.members.items c.self.invariant
    c.if-restart_all.ensures

pub returns-clause-stays : goal.returns-clause-stays
returns-clause-stays c = stays_again _ _ _ _ _ c.self.inside.members.items c.restart_all.new.members.items _ _ _
    c.self.view_is c.if-restart_all.ensures
