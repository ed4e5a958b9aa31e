use Rattle.std.proofs.Common.{◌+◌, ◌≤◌, ◌++◌, ◌-◌, map, flat_map, length, refl, sym, ap, ◌∙◌, arith, rules}
use Rattle.std.proofs.lemmas.List.{length-map}
use Rattle.layer_mean.specs.Queue.{is_place}
use Rattle.typed_layer.specs.Places.{rc_tree}
use Rattle.weight_laws.specs.Runs.{pending_weight}
use Rattle.stack_judge.specs.Answer.{stack_tree}
use Rattle.stack_judge.proofs.Judged.{accepted_is}
use Rattle.msg_core.specs.Headers.{most_places}
use Rattle.layer_eval.specs.Did.{as_predicted}
use Rattle.pool_message.specs.Sent.{sent_seen}
use Rattle.stack_queue.specs.Pending.{first_task, tasks_seen}
use Rattle.stack_queue.proofs.Ends.{begins_well, begins, ended_at}
use Rattle.stack_queue.proofs.Turn.{goes_with, placed_at, edge_at, output_fits, puts_out, falls_out, is_ready}
use Rattle.stack_queue.proofs.Turn.{counts_are, headers_are, slots_suffice, places_suffice, covers_it, visit_goes_on}
use Rattle.stack_queue.proofs.Turn.{visit_stands, falls}
use Rattle.stack_queue.proofs.Passing.{carried, carried_lighter}
use Rattle.stack_queue.proofs.turns.run.Goals as goal

pub loop-at-init : goal.loop-at-init
loop-at-init g c =
    let states = map (g.S.Stage.state c.args.pool.now) c.args.stages.now in
    let refs = flat_map g.S.Stage.refs c.args.stages.now in
    let accepts = accepted_is (stack_tree c.args.stack.now) c.args.stack.now.accepted in
    let few : length (stack_tree c.args.stack.now) ≤ most_places =
    omega (arith, length-map c.args.stack.now.typed.layers.items rc_tree, c.args.stack.now.typed.few) in (
      begins_well (stack_tree c.args.stack.now) c.requires.typed accepts few c.args.pool.now states c.requires.chained
          (first_task c.args.tasks.now.items) c.requires.first
          c.requires.enters refs c.args.out.now.items c.args.visits.now (map g.S.Stage.taken c.args.stages.now)
          c.requires.counts c.requires.slots,
      goes_with _ c.args.pool.now _
          (begins (stack_tree c.args.stack.now) c.requires.typed accepts few c.args.pool.now states c.requires.chained
          (first_task c.args.tasks.now.items) c.requires.first
          c.requires.enters refs c.args.out.now.items c.args.visits.now (map g.S.Stage.taken c.args.stages.now)
          c.requires.counts c.requires.slots c.requires.event c.requires.lie c.requires.covers)
          _ _ _ _ (sym c.requires.tasks.0) (search rules) (search rules) (search rules),
      c.requires.stand,
      refl,
      refl,
    )

pub pass-here-requires-clause-goes : goal.pass-here-requires-clause-goes
pass-here-requires-clause-goes g c = (
  record { begun = _; pool = c.loop-at.pool; out = c.loop-at.out.items; predicted = c.loop-at.predicted },
  record {
    well = c.loop-at.invariant.0;
    few = c.requires.visits;
    stand = c.loop-at.invariant.2;
    going =
        c.loop-at.invariant.1;
  },
)

pub leave-requires-clause-room : goal.leave-requires-clause-room
leave-requires-clause-room g c =
    let on = carried g.S.Stage.place g.S.Stage.layer g.S.Stage.refs g.S.Stage.ready g.S.Stage.state g.S.Stage.taken _
    c.loop-at.invariant.0 c.requires.visits c.loop-at.pool c.loop-at.out.items c.loop-at.predicted _ _ _
    c.loop-at.invariant.2 c.loop-at.invariant.1 _ _ _ c.pass-here.ensures.goes in
    omega (
      arith,
      output_fits g.S.Stage.place g.S.Stage.layer g.S.Stage.refs g.S.Stage.ready g.S.Stage.state g.S.Stage.taken
          g.met.S.Stage.frame g.met.S.Stage.few
          _ on.well c.loop-at.pool c.pass-here.new.stages on.stand c.pass-here.new.self.items
          c.loop-at.out.items c.loop-at.predicted c.pass-here.new.visits on.going c.pass-here.result
          c.pass-here.ensures.first,
      c.requires.out,
      c.loop-at.invariant.4,
    )

pub loop-at-smaller-then-is_edge : goal.loop-at-smaller-then-is_edge
loop-at-smaller-then-is_edge g c =
    let on = carried g.S.Stage.place g.S.Stage.layer g.S.Stage.refs g.S.Stage.ready g.S.Stage.state g.S.Stage.taken _
    c.loop-at.invariant.0 c.requires.visits c.loop-at.pool c.loop-at.out.items c.loop-at.predicted _ _ _
    c.loop-at.invariant.2 c.loop-at.invariant.1 _ _ _ c.pass-here.ensures.goes in
    omega (
      arith,
      falls_out g.S.Stage.place g.S.Stage.layer g.S.Stage.refs g.S.Stage.ready g.S.Stage.state g.S.Stage.taken
          g.met.S.Stage.frame g.met.S.Stage.few
          _ on.well c.loop-at.pool c.pass-here.new.stages on.stand c.pass-here.new.self.items
          c.loop-at.out.items c.loop-at.predicted c.pass-here.new.visits on.going c.pass-here.result
          c.pass-here.ensures.first
          (ap (λ n. is_place n c.pass-here.result) (sym c.places-places.ensures) ∙
          edge_at c.places-places.result c.pass-here.result c.is_edge.result c.is_edge.ensures c.if-is_edge.true),
      ap (λ x. pending_weight (stack_tree c.args.stack.now) (tasks_seen c.loop-at.pool x.items)) c.leave.ensures.rest,
      carried_lighter g.S.Stage.place g.S.Stage.layer g.S.Stage.refs g.S.Stage.ready g.S.Stage.state g.S.Stage.taken _
          c.loop-at.invariant.0 c.requires.visits c.loop-at.pool c.loop-at.out.items c.loop-at.predicted _ _ _
          c.loop-at.invariant.2 c.loop-at.invariant.1 _ _ _ c.pass-here.ensures.goes,
    )

pub loop-at-preserved-then-is_edge : goal.loop-at-preserved-then-is_edge
loop-at-preserved-then-is_edge g c =
    let on = carried g.S.Stage.place g.S.Stage.layer g.S.Stage.refs g.S.Stage.ready g.S.Stage.state g.S.Stage.taken _
    c.loop-at.invariant.0 c.requires.visits c.loop-at.pool c.loop-at.out.items c.loop-at.predicted _ _ _
    c.loop-at.invariant.2 c.loop-at.invariant.1 _ _ _ c.pass-here.ensures.goes in (
      c.loop-at.invariant.0,
      goes_with _ c.loop-at.pool _
          (puts_out g.S.Stage.place g.S.Stage.layer g.S.Stage.refs g.S.Stage.ready g.S.Stage.state g.S.Stage.taken
          g.met.S.Stage.frame g.met.S.Stage.few
          _ on.well c.loop-at.pool c.pass-here.new.stages on.stand c.pass-here.new.self.items
          c.loop-at.out.items c.loop-at.predicted c.pass-here.new.visits on.going c.pass-here.result
          c.pass-here.ensures.first
          (ap (λ n. is_place n c.pass-here.result) (sym c.places-places.ensures) ∙
          edge_at c.places-places.result c.pass-here.result c.is_edge.result c.is_edge.ensures c.if-is_edge.true))
          _ _ _ _ (search rules) (search rules) (search rules) (search rules),
      on.stand,
      ap (λ x. x.capacity) c.leave.ensures.rest ∙ c.pass-here.ensures.capacity ∙ c.loop-at.invariant.3,
      ap (λ x. x.capacity) c.leave.ensures.out ∙ c.loop-at.invariant.4,
    )

pub visit-requires-clause-ready : goal.visit-requires-clause-ready
visit-requires-clause-ready g c =
    let on = carried g.S.Stage.place g.S.Stage.layer g.S.Stage.refs g.S.Stage.ready g.S.Stage.state g.S.Stage.taken _
    c.loop-at.invariant.0 c.requires.visits c.loop-at.pool c.loop-at.out.items c.loop-at.predicted _ _ _
    c.loop-at.invariant.2 c.loop-at.invariant.1 _ _ _ c.pass-here.ensures.goes in
    is_ready g.S.Stage.place g.S.Stage.layer g.S.Stage.refs g.S.Stage.ready g.S.Stage.state g.S.Stage.taken
    g.met.S.Stage.frame g.met.S.Stage.few
    _ on.well c.loop-at.pool c.pass-here.new.stages on.stand c.pass-here.new.self.items
    c.loop-at.out.items c.loop-at.predicted c.pass-here.new.visits on.going c.pass-here.result c.pass-here.ensures.first
    (ap (λ n. is_place n c.pass-here.result) (sym c.places-places.ensures) ∙
    placed_at c.places-places.result c.pass-here.result c.is_edge.result c.is_edge.ensures c.if-is_edge.false)
    (c.from.result - 1) (ap (λ n. n - 1) c.from.ensures) c.index-stages-from.result

pub visit-requires-clause-lie : goal.visit-requires-clause-lie
visit-requires-clause-lie g c =
    let on = carried g.S.Stage.place g.S.Stage.layer g.S.Stage.refs g.S.Stage.ready g.S.Stage.state g.S.Stage.taken _
    c.loop-at.invariant.0 c.requires.visits c.loop-at.pool c.loop-at.out.items c.loop-at.predicted _ _ _
    c.loop-at.invariant.2 c.loop-at.invariant.1 _ _ _ c.pass-here.ensures.goes in
    on.going.tasks_lie

pub overflow_add-visits : goal.overflow_add-visits
overflow_add-visits g c =
    let on = carried g.S.Stage.place g.S.Stage.layer g.S.Stage.refs g.S.Stage.ready g.S.Stage.state g.S.Stage.taken _
    c.loop-at.invariant.0 c.requires.visits c.loop-at.pool c.loop-at.out.items c.loop-at.predicted _ _ _
    c.loop-at.invariant.2 c.loop-at.invariant.1 _ _ _ c.pass-here.ensures.goes in
    omega (arith, on.going.visits, on.going.weight, on.well.weight, on.few)

pub visit-requires-clause-covers : goal.visit-requires-clause-covers
visit-requires-clause-covers g c =
    let on = carried g.S.Stage.place g.S.Stage.layer g.S.Stage.refs g.S.Stage.ready g.S.Stage.state g.S.Stage.taken _
    c.loop-at.invariant.0 c.requires.visits c.loop-at.pool c.loop-at.out.items c.loop-at.predicted _ _ _
    c.loop-at.invariant.2 c.loop-at.invariant.1 _ _ _ c.pass-here.ensures.goes in
    covers_it g.S.Stage.place g.S.Stage.layer g.S.Stage.refs g.S.Stage.ready g.S.Stage.state g.S.Stage.taken
    g.met.S.Stage.frame g.met.S.Stage.few
    _ on.well c.loop-at.pool c.pass-here.new.stages on.stand c.pass-here.new.self.items
    c.loop-at.out.items c.loop-at.predicted c.pass-here.new.visits on.going c.pass-here.result c.pass-here.ensures.first
    (ap (λ n. is_place n c.pass-here.result) (sym c.places-places.ensures) ∙
    placed_at c.places-places.result c.pass-here.result c.is_edge.result c.is_edge.ensures c.if-is_edge.false)
    (c.from.result - 1) (ap (λ n. n - 1) c.from.ensures) c.index-stages-from.result

pub visit-requires-clause-counts : goal.visit-requires-clause-counts
visit-requires-clause-counts g c =
    let on = carried g.S.Stage.place g.S.Stage.layer g.S.Stage.refs g.S.Stage.ready g.S.Stage.state g.S.Stage.taken _
    c.loop-at.invariant.0 c.requires.visits c.loop-at.pool c.loop-at.out.items c.loop-at.predicted _ _ _
    c.loop-at.invariant.2 c.loop-at.invariant.1 _ _ _ c.pass-here.ensures.goes in
    counts_are g.S.Stage.place g.S.Stage.layer g.S.Stage.refs g.S.Stage.ready g.S.Stage.state g.S.Stage.taken
    g.met.S.Stage.frame g.met.S.Stage.few
    _ on.well c.loop-at.pool c.pass-here.new.stages on.stand c.pass-here.new.self.items
    c.loop-at.out.items c.loop-at.predicted c.pass-here.new.visits on.going c.pass-here.result c.pass-here.ensures.first
    (ap (λ n. is_place n c.pass-here.result) (sym c.places-places.ensures) ∙
    placed_at c.places-places.result c.pass-here.result c.is_edge.result c.is_edge.ensures c.if-is_edge.false)
    (c.from.result - 1) (ap (λ n. n - 1) c.from.ensures) c.index-stages-from.result

pub visit-requires-clause-headers : goal.visit-requires-clause-headers
visit-requires-clause-headers g c =
    let on = carried g.S.Stage.place g.S.Stage.layer g.S.Stage.refs g.S.Stage.ready g.S.Stage.state g.S.Stage.taken _
    c.loop-at.invariant.0 c.requires.visits c.loop-at.pool c.loop-at.out.items c.loop-at.predicted _ _ _
    c.loop-at.invariant.2 c.loop-at.invariant.1 _ _ _ c.pass-here.ensures.goes in
    headers_are g.S.Stage.place g.S.Stage.layer g.S.Stage.refs g.S.Stage.ready g.S.Stage.state g.S.Stage.taken
    g.met.S.Stage.frame g.met.S.Stage.few
    _ on.well c.loop-at.pool c.pass-here.new.stages on.stand c.pass-here.new.self.items
    c.loop-at.out.items c.loop-at.predicted c.pass-here.new.visits on.going c.pass-here.result c.pass-here.ensures.first
    (ap (λ n. is_place n c.pass-here.result) (sym c.places-places.ensures) ∙
    placed_at c.places-places.result c.pass-here.result c.is_edge.result c.is_edge.ensures c.if-is_edge.false)
    (c.from.result - 1) (ap (λ n. n - 1) c.from.ensures) c.index-stages-from.result

pub visit-requires-clause-slots : goal.visit-requires-clause-slots
visit-requires-clause-slots g c =
    let on = carried g.S.Stage.place g.S.Stage.layer g.S.Stage.refs g.S.Stage.ready g.S.Stage.state g.S.Stage.taken _
    c.loop-at.invariant.0 c.requires.visits c.loop-at.pool c.loop-at.out.items c.loop-at.predicted _ _ _
    c.loop-at.invariant.2 c.loop-at.invariant.1 _ _ _ c.pass-here.ensures.goes in
    slots_suffice g.S.Stage.place g.S.Stage.layer g.S.Stage.refs g.S.Stage.ready g.S.Stage.state g.S.Stage.taken
    g.met.S.Stage.frame g.met.S.Stage.few
    _ on.well c.loop-at.pool c.pass-here.new.stages on.stand c.pass-here.new.self.items
    c.loop-at.out.items c.loop-at.predicted c.pass-here.new.visits on.going c.pass-here.result c.pass-here.ensures.first
    (ap (λ n. is_place n c.pass-here.result) (sym c.places-places.ensures) ∙
    placed_at c.places-places.result c.pass-here.result c.is_edge.result c.is_edge.ensures c.if-is_edge.false)
    (c.from.result - 1) (ap (λ n. n - 1) c.from.ensures) c.index-stages-from.result

pub visit-requires-clause-places : goal.visit-requires-clause-places
visit-requires-clause-places g c =
    let on = carried g.S.Stage.place g.S.Stage.layer g.S.Stage.refs g.S.Stage.ready g.S.Stage.state g.S.Stage.taken _
    c.loop-at.invariant.0 c.requires.visits c.loop-at.pool c.loop-at.out.items c.loop-at.predicted _ _ _
    c.loop-at.invariant.2 c.loop-at.invariant.1 _ _ _ c.pass-here.ensures.goes in
    omega (
      arith,
      places_suffice g.S.Stage.place g.S.Stage.layer g.S.Stage.refs g.S.Stage.ready g.S.Stage.state g.S.Stage.taken
          g.met.S.Stage.frame g.met.S.Stage.few
          _ on.well c.loop-at.pool c.pass-here.new.stages on.stand c.pass-here.new.self.items
          c.loop-at.out.items c.loop-at.predicted c.pass-here.new.visits on.going c.pass-here.result
          c.pass-here.ensures.first
          (ap (λ n. is_place n c.pass-here.result) (sym c.places-places.ensures) ∙
          placed_at c.places-places.result c.pass-here.result c.is_edge.result c.is_edge.ensures c.if-is_edge.false)
          (c.from.result - 1) (ap (λ n. n - 1) c.from.ensures) c.index-stages-from.result,
      c.pass-here.ensures.capacity,
      c.loop-at.invariant.3,
      c.requires.tasks.1,
    )

pub loop-at-smaller : goal.loop-at-smaller
loop-at-smaller g c =
    let on = carried g.S.Stage.place g.S.Stage.layer g.S.Stage.refs g.S.Stage.ready g.S.Stage.state g.S.Stage.taken _
    c.loop-at.invariant.0 c.requires.visits c.loop-at.pool c.loop-at.out.items c.loop-at.predicted _ _ _
    c.loop-at.invariant.2 c.loop-at.invariant.1 _ _ _ c.pass-here.ensures.goes in
    omega (
      arith,
      falls g.S.Stage.place g.S.Stage.layer g.S.Stage.refs g.S.Stage.ready g.S.Stage.state g.S.Stage.taken
          g.met.S.Stage.frame g.met.S.Stage.few
          _ on.well c.loop-at.pool c.pass-here.new.stages on.stand c.pass-here.new.self.items
          c.loop-at.out.items c.loop-at.predicted c.pass-here.new.visits on.going c.pass-here.result
          c.pass-here.ensures.first
          (ap (λ n. is_place n c.pass-here.result) (sym c.places-places.ensures) ∙
          placed_at c.places-places.result c.pass-here.result c.is_edge.result c.is_edge.ensures c.if-is_edge.false)
          (c.from.result - 1) (ap (λ n. n - 1) c.from.ensures) c.index-stages-from.result
          c.visit.new.pool c.visit.new.stage c.visit.new.self.items
          _ c.visit.ensures.moved c.visit.ensures.spent c.visit.ensures.lie c.visit.ensures.ready
          c.visit.ensures.state c.visit.ensures.tasks refl,
      carried_lighter g.S.Stage.place g.S.Stage.layer g.S.Stage.refs g.S.Stage.ready g.S.Stage.state g.S.Stage.taken _
          c.loop-at.invariant.0 c.requires.visits c.loop-at.pool c.loop-at.out.items c.loop-at.predicted _ _ _
          c.loop-at.invariant.2 c.loop-at.invariant.1 _ _ _ c.pass-here.ensures.goes,
    )

pub loop-at-preserved : goal.loop-at-preserved
loop-at-preserved g c =
    let on = carried g.S.Stage.place g.S.Stage.layer g.S.Stage.refs g.S.Stage.ready g.S.Stage.state g.S.Stage.taken _
    c.loop-at.invariant.0 c.requires.visits c.loop-at.pool c.loop-at.out.items c.loop-at.predicted _ _ _
    c.loop-at.invariant.2 c.loop-at.invariant.1 _ _ _ c.pass-here.ensures.goes in (
      c.loop-at.invariant.0,
      goes_with _ c.visit.new.pool _
          (visit_goes_on g.S.Stage.place g.S.Stage.layer g.S.Stage.refs g.S.Stage.ready g.S.Stage.state g.S.Stage.taken
          g.met.S.Stage.frame g.met.S.Stage.few
          _ on.well c.loop-at.pool c.pass-here.new.stages on.stand c.pass-here.new.self.items
          c.loop-at.out.items c.loop-at.predicted c.pass-here.new.visits on.going c.pass-here.result
          c.pass-here.ensures.first
          (ap (λ n. is_place n c.pass-here.result) (sym c.places-places.ensures) ∙
          placed_at c.places-places.result c.pass-here.result c.is_edge.result c.is_edge.ensures c.if-is_edge.false)
          (c.from.result - 1) (ap (λ n. n - 1) c.from.ensures) c.index-stages-from.result
          c.visit.new.pool c.visit.new.stage c.visit.new.self.items
          _ c.visit.ensures.moved c.visit.ensures.spent c.visit.ensures.lie c.visit.ensures.ready
          c.visit.ensures.state c.visit.ensures.tasks refl c.visit.ensures.taken)
          _ _ _ _ (search rules) (search rules) (search rules) (search rules),
      visit_stands g.S.Stage.place g.S.Stage.layer g.S.Stage.refs g.S.Stage.ready g.S.Stage.state g.S.Stage.taken
          g.met.S.Stage.frame g.met.S.Stage.few
          _ on.well c.loop-at.pool c.pass-here.new.stages on.stand c.pass-here.new.self.items
          c.loop-at.out.items c.loop-at.predicted c.pass-here.new.visits on.going c.pass-here.result
          c.pass-here.ensures.first
          (ap (λ n. is_place n c.pass-here.result) (sym c.places-places.ensures) ∙
          placed_at c.places-places.result c.pass-here.result c.is_edge.result c.is_edge.ensures c.if-is_edge.false)
          (c.from.result - 1) (ap (λ n. n - 1) c.from.ensures) c.index-stages-from.result
          c.visit.new.pool c.visit.new.stage c.visit.new.self.items
          _ c.visit.ensures.moved c.visit.ensures.spent c.visit.ensures.lie c.visit.ensures.ready
          c.visit.ensures.state c.visit.ensures.tasks refl
          c.visit.ensures.place c.visit.ensures.layer,
      c.visit.ensures.capacity ∙ c.pass-here.ensures.capacity ∙ c.loop-at.invariant.3,
      c.loop-at.invariant.4,
    )

pub returns-clause-states : goal.returns-clause-states
returns-clause-states g c =
    let e = ended_at _ c.loop-at.pool _ c.in_default.ensures.none c.loop-at.invariant.1 in
    e.states ∙ ap (λ r. r.world.states) (sym e.is)

pub returns-clause-outs : goal.returns-clause-outs
returns-clause-outs g c =
    let e = ended_at _ c.loop-at.pool _ c.in_default.ensures.none c.loop-at.invariant.1 in
    e.outs ∙ ap (λ r. sent_seen c.args.pool.now c.args.out.now.items ++ r.world.outs) (sym e.is)

pub returns-clause-predicted : goal.returns-clause-predicted
returns-clause-predicted g c =
    let e = ended_at _ c.loop-at.pool _ c.in_default.ensures.none c.loop-at.invariant.1 in
    e.predicted ∙ ap (λ r. as_predicted r.world.decided) (sym e.is)

pub returns-clause-visits : goal.returns-clause-visits
returns-clause-visits g c =
    let e = ended_at _ c.loop-at.pool _ c.in_default.ensures.none c.loop-at.invariant.1 in
    e.visits ∙ ap (λ r. c.args.visits.now + r.world.visits) (sym e.is)

pub returns-clause-taken : goal.returns-clause-taken
returns-clause-taken g c =
    let e = ended_at _ c.loop-at.pool _ c.in_default.ensures.none c.loop-at.invariant.1 in e.taken

pub returns-clause-done : goal.returns-clause-done
returns-clause-done g c =
    let e = ended_at _ c.loop-at.pool _ c.in_default.ensures.none c.loop-at.invariant.1 in ap (λ r. r.tasks) e.is ∙
    e.done
