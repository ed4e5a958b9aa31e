use Rattle.stack_judge.specs.Answer.{stack_tree}
use Rattle.stack_shapes.specs.Trees.{plans_tree}
use Rattle.stack_play.specs.Turns.{Playing, playing}
use Rattle.stack_play.proofs.Counted.{counted_event}
use Rattle.stack_play.proofs.Events.{happened}
use Rattle.stack_play.proofs.counting.count_event.Goals as goal

pub returns-clause-counted : goal.returns-clause-counted
returns-clause-counted g c = λ w stands.
    let before = g.G.Feed.group c.args.group.now in
    let after = g.G.Feed.group c.feed.new.self in
    let old = playing before c.args.run.now in
    let new : Playing = record { group = after; places = c.feed.new.out.places; visits = c.feed.new.visits } in
    let h = happened before.mode (stack_tree c.args.load.stack.now) (plans_tree c.args.load.plans.now) w
    c.args.event.now before
    after c.feed.new.out.outputs
    old.visits c.feed.new.visits c.in_ok-did.did c.requires.ready.mode_is c.requires.ready.stack_is
    c.requires.ready.plans_are
    (c.in_ok-did.ensures.fed w stands) in
    counted_event _ _ _ w c.args.event.now old new c.feed.new.out.outputs c.in_ok-did.did _ _ h c.count_event.ensures
