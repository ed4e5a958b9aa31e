use Rattle.std.proofs.Common.{◌<◌, ◌≤◌, ◌∙◌, length, get_or, ap, arith}
use Rattle.std.proofs.lemmas.Result.{err_from_is_err_and}
use Rattle.stack_judge.specs.Answer.{stack_tree}
use Rattle.stack_shapes.specs.Trees.{plans_tree}
use Rattle.stack_play.proofs.Held.{held_cut, held_last, ready_as_it_is}
use Rattle.family_group.specs.Telling.{playing}
use Rattle.family_group.proofs.Told.{told_first, told_more, told_named, stays_on}
use Rattle.family_group.proofs.telling.write_events.Goals as goal

pub loop-event-init : goal.loop-event-init
loop-event-init g c = told_first _ _ _ c.args.script.now c.args.manner.events c.args.manner.wire
    (playing (g.G.Feed.group c.args.group.now) c.args.gear.now) _
    c.requires.first c.requires.visits

pub play_event-requires-clause-ready : goal.play_event-requires-clause-ready
play_event-requires-clause-ready g c =
    ready_as_it_is _ _ _ (playing (g.G.Feed.group c.loop-event.group) c.loop-event.gear)
    c.loop-event.invariant.held.stands.ready

pub loop-event-preserved : goal.loop-event-preserved
loop-event-preserved g c =
    let script = c.args.script.now in
    let lt : c.loop-event.event-index < length script.events =
    omega (arith, c.loop-event-test.true, ap length c.slice-event-items.ensures) in
    told_more (g.G.Feed.group c.args.group.now).mode (stack_tree c.args.manner.stack.now)
    (plans_tree c.args.manner.plans.now) script c.args.manner.events c.args.manner.wire
    c.loop-event.event-index c.event-item.result lt
    (c.event-item.is ∙ ap (λ es. get_or es c.loop-event.event-index c.event-item.result) c.slice-event-items.ensures) _
    _ _ _ _ _ c.loop-event.invariant
    c.in_ok-play_event.ensures.kept
    (c.in_ok-play_event.ensures.told _ c.loop-event.invariant.held.stands.world)
    c.in_ok-play_event.ensures.stays c.in_ok-play_event.ensures.places

pub returns-in_err-play_event-clause-lines : goal.returns-in_err-play_event-clause-lines
returns-in_err-play_event-clause-lines g c =
    let script = c.args.script.now in
    let lt : c.loop-event.event-index < length script.events =
    omega (arith, c.loop-event-test.true, ap length c.slice-event-items.ensures) in
    let p = err_from_is_err_and c.from_residual.result c.from_residual.ensures.1 in
    rw (p.1, p.2) (held_cut (g.G.Feed.group c.args.group.now).mode (stack_tree c.args.manner.stack.now)
    (plans_tree c.args.manner.plans.now) script
    c.args.manner.events c.args.manner.wire c.loop-event.event-index c.event-item.result lt
    (c.event-item.is ∙ ap (λ es. get_or es c.loop-event.event-index c.event-item.result) c.slice-event-items.ensures) _
    _ _ _ _ c.loop-event.invariant.held
    (c.in_err-play_event.ensures.told _ c.loop-event.invariant.held.stands.world))

pub returns-clause-named : goal.returns-clause-named
returns-clause-named g c = told_named _ _ _ _ _ _ _ _ _ _ _ c.loop-event.invariant

pub returns-clause-lines : goal.returns-clause-lines
returns-clause-lines g c =
    let script = c.args.script.now in
    let all : length script.events ≤ c.loop-event.event-index =
    omega (arith, c.loop-event-test.false, ap length c.slice-event-items.ensures) in
    (held_last (g.G.Feed.group c.args.group.now).mode (stack_tree c.args.manner.stack.now)
    (plans_tree c.args.manner.plans.now) script c.args.manner.events c.args.manner.wire
    c.loop-event.event-index _ _ _ c.loop-event.invariant.held all).0
