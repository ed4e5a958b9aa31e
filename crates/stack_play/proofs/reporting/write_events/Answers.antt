use Rattle.std.proofs.Common.{◌<◌, ◌∙◌, length, get_or, ap, arith}
use Rattle.std.proofs.lemmas.Result.{err_from_is_err_and}
use Rattle.stack_judge.specs.Answer.{stack_tree}
use Rattle.stack_shapes.specs.Trees.{plans_tree}
use Rattle.stack_play.specs.Turns.{playing}
use Rattle.stack_play.proofs.Held.{held_first, held_more, held_cut, ready_as_it_is}
use Rattle.stack_play.proofs.reporting.write_events.Goals as goal

pub loop-event-init : goal.loop-event-init
loop-event-init g c = held_first _ _ _ c.args.script.now c.args.manner.events c.args.manner.wire
    (playing (g.G.Feed.group c.args.group.now) c.args.run.now) _
    c.requires.first c.requires.visits

pub play_event-requires-clause-ready : goal.play_event-requires-clause-ready
play_event-requires-clause-ready g c =
    ready_as_it_is _ _ _ (playing (g.G.Feed.group c.loop-event.group) c.loop-event.run)
    c.loop-event.invariant.stands.ready

pub loop-event-preserved : goal.loop-event-preserved
loop-event-preserved g c =
    let script = c.args.script.now in
    let lt : c.loop-event.event-index < length script.events =
    omega (arith, c.loop-event-test.true, ap length c.slice-event-items.ensures) in
    held_more (g.G.Feed.group c.args.group.now).mode (stack_tree c.args.manner.stack.now)
    (plans_tree c.args.manner.plans.now) script c.args.manner.events c.args.manner.wire
    c.loop-event.event-index c.event-item.result lt
    (c.event-item.is ∙ ap (λ es. get_or es c.loop-event.event-index c.event-item.result) c.slice-event-items.ensures) _
    _ _ _ _ c.loop-event.invariant
    c.in_ok-play_event.ensures.kept (c.in_ok-play_event.ensures.told _ c.loop-event.invariant.stands.world)

pub returns-in_err-play_event-clause-lines : goal.returns-in_err-play_event-clause-lines
returns-in_err-play_event-clause-lines g c =
    let script = c.args.script.now in
    let lt : c.loop-event.event-index < length script.events =
    omega (arith, c.loop-event-test.true, ap length c.slice-event-items.ensures) in
    let p = err_from_is_err_and c.from_residual.result c.from_residual.ensures.1 in
    rw (p.1, p.2) (held_cut (g.G.Feed.group c.args.group.now).mode (stack_tree c.args.manner.stack.now)
    (plans_tree c.args.manner.plans.now) script
    c.args.manner.events c.args.manner.wire c.loop-event.event-index c.event-item.result lt
    (c.event-item.is ∙ ap (λ es. get_or es c.loop-event.event-index c.event-item.result) c.slice-event-items.ensures) _
    _ _ _ _ c.loop-event.invariant
    (c.in_err-play_event.ensures.told _ c.loop-event.invariant.stands.world))
