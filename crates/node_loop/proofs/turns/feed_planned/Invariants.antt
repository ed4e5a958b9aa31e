use Rattle.std.proofs.Common.{length, ◌-◌}
use Rattle.node_loop.specs.Course.{plans_in, stack_in}
use Rattle.node_loop.specs.Around.{around}
use Rattle.node_loop.proofs.Planning.{PlannedSome}
use Rattle.node_loop.proofs.turns.feed_planned.Given as goal

abbrev pub invariant-loop-next : goal.invariant-loop-next
invariant-loop-next g l = PlannedSome (stack_in l.course) (plans_in l.course) l.course.me.now l.course.plan.now.turns
    l.t l.initial.next l.next
    (g.F.Feed.group l.initial.feed) (g.F.Feed.group l.feed) l.initial.desk l.desk
    (around g.O.Sink g.N.Links l.initial.out l.initial.links) (around g.O.Sink g.N.Links l.out l.links)
    (g.N.Links.listening l.initial.links) (g.N.Links.listening l.links)

abbrev pub decreases-loop-next : goal.decreases-loop-next
decreases-loop-next g l = length l.course.plan.now.turns - l.next
