use Rattle.stack_judge.specs.Answer.{stack_tree}
use Rattle.stack_shapes.specs.Trees.{plans_tree}
use Rattle.stack_play.proofs.Events.{happened, told_event}
use Rattle.stack_play.specs.Turns.{Playing, playing}
use Rattle.stack_play.proofs.reporting.play_event.Goals as goal

pub returns-clause-told : goal.returns-clause-told
returns-clause-told g c = λ w stands.
    let before = g.G.Feed.group c.args.group.now in
    let after = g.G.Feed.group c.feed.new.self in
    let old = playing before c.args.run.now in
    let new : Playing = record { group = after; places = c.feed.new.out.places; visits = c.feed.new.visits } in
    let h = happened before.mode (stack_tree c.args.manner.stack.now) (plans_tree c.args.manner.plans.now) w
    c.args.event.now before after
    c.feed.new.out.outputs old.visits c.feed.new.visits c.in_ok-did.did c.requires.ready.mode_is
    c.requires.ready.stack_is c.requires.ready.plans_are
    (c.in_ok-did.ensures.fed w stands) in
    told_event _ _ _ c.args.manner.events c.args.manner.wire w c.args.event.now old new c.feed.new.out.outputs
    c.in_ok-did.did h _ _ _
    c.write_event.result
    c.next_number-first.ensures.number stands c.write_event.ensures
