use Rattle.std.proofs.Common.{arith}
use Rattle.stack_judge.specs.Answer.{stack_tree}
use Rattle.stack_shapes.specs.Trees.{plans_tree}
use Rattle.stack_play.specs.Turns.{playing}
use Rattle.stack_play.proofs.Held.{ready_as_it_is}
use Rattle.stack_play.proofs.Counted.{first_counted, next_counted, few_counted, all_counted, one_of_them}
use Rattle.stack_play.proofs.counting.count_events.Goals as goal

pub loop-init : goal.loop-init
loop-init g c = first_counted (g.G.Feed.group c.args.group.now).mode (stack_tree c.args.load.stack.now)
    (plans_tree c.args.load.plans.now) c.args.load.workload
    (playing (g.G.Feed.group c.args.group.now) c.args.run.now) c.args.counts.now c.in_ok-script.script
    c.requires.first c.requires.visits c.requires.nothing c.in_ok-script.ensures

pub next-requires : goal.next-requires
next-requires g c = record { more = rw c.loop.invariant.course c.loop-test.true }

pub count_event-requires-clause-ready : goal.count_event-requires-clause-ready
count_event-requires-clause-ready g c =
    ready_as_it_is _ _ _ (playing (g.G.Feed.group c.loop.group) c.loop.run) c.loop.invariant.counted.stands.ready

pub count_event-requires-clause-member : goal.count_event-requires-clause-member
count_event-requires-clause-member g c =
    one_of_them (g.G.Feed.group c.args.group.now).mode (stack_tree c.args.load.stack.now)
    (plans_tree c.args.load.plans.now)
    c.args.load.workload c.loop.counter (playing (g.G.Feed.group c.loop.group) c.loop.run) c.loop.counts c.loop.script
    c.loop.invariant c.next.new.self
    c.in_ok-event.event c.in_ok-event.ensures

pub count_event-requires-clause-events : goal.count_event-requires-clause-events
count_event-requires-clause-events g c =
    let counted = few_counted (g.G.Feed.group c.args.group.now).mode (stack_tree c.args.load.stack.now)
    (plans_tree c.args.load.plans.now) c.args.load.workload
    c.loop.counter (playing (g.G.Feed.group c.loop.group) c.loop.run) c.loop.counts c.loop.script c.loop.invariant
    c.loop-test.true in
    let few = c.requires.few in
    omega (arith, counted, few, c.loop-test.true)

pub loop-preserved : goal.loop-preserved
loop-preserved g c = rw c.take_back.ensures
    (next_counted (g.G.Feed.group c.args.group.now).mode (stack_tree c.args.load.stack.now)
    (plans_tree c.args.load.plans.now) c.args.load.workload c.loop.counter
    (playing (g.G.Feed.group c.loop.group) c.loop.run)
    c.loop.counts c.loop.script
    c.loop.invariant c.next.new.self c.in_ok-event.event c.in_ok-event.ensures _ _
    c.in_ok-count_event.ensures.kept (c.in_ok-count_event.ensures.counted _ c.loop.invariant.counted.stands.world))

pub returns : goal.returns
returns g c = all_counted (g.G.Feed.group c.args.group.now).mode (stack_tree c.args.load.stack.now)
    (plans_tree c.args.load.plans.now) c.args.load.workload
    c.loop.counter (playing (g.G.Feed.group c.loop.group) c.loop.run) c.loop.counts c.loop.script c.loop.invariant
    c.loop-test.false
