use Rattle.node_loop.specs.Around.{around}
use Rattle.node_loop.specs.Course.{course_of, now, plans_in, stack_in}
use Rattle.node_loop.proofs.AllTurns.{TurnsSo}
use Rattle.node_loop.proofs.serving.make_turns.Given as goal

abbrev pub invariant-loop-t : goal.invariant-loop-t
invariant-loop-t g l = TurnsSo (stack_in l.course) (plans_in l.course) (course_of l.course) l.patience
    (now (g.F.Feed.group l.initial.feed) l.initial.desk
    (around g.O.Sink g.N.Links l.initial.out l.initial.links) (g.C.Clock.told l.initial.clock))
    (g.N.Links.listening l.initial.links) l.t l.progress
    (now (g.F.Feed.group l.feed) l.desk
    (around g.O.Sink g.N.Links l.out l.links) (g.C.Clock.told l.clock))
    (g.N.Links.listening l.links)
