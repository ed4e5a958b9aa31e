use Rattle.stack_judge.specs.Answer.{stack_tree}
use Rattle.stack_shapes.specs.Trees.{plans_tree}
use Rattle.outside.specs.Tells.{tells_of}
use Rattle.stack_play.specs.Turns.{playing}
use Rattle.stack_play.proofs.Held.{Held}
use Rattle.stack_play.proofs.reporting.write_events.Given as goal

abbrev pub invariant-loop-event : goal.invariant-loop-event
invariant-loop-event g l = Held (g.G.Feed.group l.initial.group).mode (stack_tree l.manner.stack.now)
    (plans_tree l.manner.plans.now) l.manner.events l.manner.wire
    l.script l.event-index (playing (g.G.Feed.group l.group) l.run)
    (tells_of g.O.Sink l.initial.out)
    (tells_of g.O.Sink l.out)
