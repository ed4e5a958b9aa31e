use Rattle.stack_judge.specs.Answer.{stack_tree}
use Rattle.stack_shapes.specs.Trees.{plans_tree}
use Rattle.stack_play.specs.Turns.{playing}
use Rattle.stack_play.proofs.Counted.{CountedSoFar}
use Rattle.stack_play.proofs.counting.count_events.Given as goal

abbrev pub invariant-loop : goal.invariant-loop
invariant-loop g l = CountedSoFar (g.G.Feed.group l.initial.group).mode (stack_tree l.load.stack.now)
    (plans_tree l.load.plans.now) l.load.workload l.counter
    (playing (g.G.Feed.group l.group) l.run) l.counts l.script
