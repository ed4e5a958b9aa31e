use Rattle.std.proofs.Common.{◌≤◌, ◌++◌, drop, length, sym, ap, subst, ◌∙◌, arith}
use Rattle.std.proofs.lemmas.List.{length-drop}
use Rattle.circular_buffer.specs.Buffer.{Buffer}
use Rattle.slot_pool.specs.Held.{spare}
use Rattle.slot_pool.specs.References.{Moved, Covers}
use Rattle.layer_words.specs.declared.events.Dir.{Dir}
use Rattle.layer_mean.specs.Queue.{tasks_of}
use Rattle.layer_mean.specs.Visit.{step}
use Rattle.layer_desk.specs.Need.{most_above}
use Rattle.layer_stage.specs.Room.{slots_needed, places_needed, headers_met}
use Rattle.pool_message.specs.Seen.{event_seen}
use Rattle.pool_message.specs.Sent.{first_sent, sent_refs}
use Rattle.pool_message.specs.declared.event.PoolEvent.{PoolEvent}
use Rattle.stack_queue.specs.Pending.{tasks_seen, tasks_refs, TasksLie, tasks_at}
use Rattle.stack_queue.specs.declared.tasks.PoolTask.{PoolTask}
use Rattle.stack_queue.proofs.Lists.{as_many, first_event, rest_at, same_after, refs_at, lie_at, events_lie}
use Rattle.stack_queue.proofs.Lists.{sent_after, more_now, placed_all}
use Rattle.stack_queue.proofs.tasks.Tasks.bring.Goals as goal

pub take-decided-requires-clause-lie : goal.take-decided-requires-clause-lie
take-decided-requires-clause-lie g c = events_lie c.args.pool.now c.self.inside.places.items c.self.inside.events.items
    c.self.invariant.0
    (subst (λ (b : Buffer PoolTask). TasksLie c.args.pool.now b.items) (sym c.self.view_is) c.requires.lie)

pub take-decided-requires-clause-covers : goal.take-decided-requires-clause-covers
take-decided-requires-clause-covers g c = subst
    (λ rs. Covers c.args.pool.now (g.S.Stage.refs c.args.stage.now ++ rs))
    (sym (ap (λ (b : Buffer PoolTask). tasks_refs b.items) c.self.view_is)
    ∙ refs_at c.self.inside.places.items c.self.inside.events.items c.self.invariant.0)
    c.requires.covers

pub take-decided-requires-clause-headers : goal.take-decided-requires-clause-headers
take-decided-requires-clause-headers g c = subst
    (λ (x : Dir × PoolEvent). headers_met x.0 (event_seen c.args.pool.now x.1) ≤ most_above)
    (first_event c.self.inside.places.items c.self.inside.events.items c.args.self.now.items c.self.invariant.0
    (ap (λ (b : Buffer PoolTask). b.items) c.self.view_is))
    c.requires.headers

pub take-decided-requires-clause-slots : goal.take-decided-requires-clause-slots
take-decided-requires-clause-slots g c = subst
    (λ (x : Dir × PoolEvent). slots_needed (g.S.Stage.layer c.args.stage.now) x.0 (event_seen c.args.pool.now x.1) ≤
    spare c.args.pool.now)
    (first_event c.self.inside.places.items c.self.inside.events.items c.args.self.now.items c.self.invariant.0
    (ap (λ (b : Buffer PoolTask). b.items) c.self.view_is))
    c.requires.slots

pub take-decided-requires-clause-places : goal.take-decided-requires-clause-places
take-decided-requires-clause-places g c =
    let view = ap (λ (b : Buffer PoolTask). b.items) c.self.view_is in
    let first = first_event c.self.inside.places.items c.self.inside.events.items c.args.self.now.items
    c.self.invariant.0 view in omega (
      arith,
      c.requires.places,
      ap (λ (x : Dir × PoolEvent). places_needed (g.S.Stage.layer c.args.stage.now) x.0
          (event_seen c.args.pool.now x.1)) first,
      ap length (rest_at c.self.inside.places.items c.self.inside.events.items c.args.self.now.items c.self.invariant.0
          view),
      as_many (drop 1 c.self.inside.places.items) (drop 1 c.self.inside.events.items)
          (same_after c.self.inside.places.items c.self.inside.events.items c.self.invariant.0),
      ap (λ (b : Buffer PoolTask). b.capacity) c.self.view_is,
      c.self.invariant.1,
      c.self.invariant.2,
      length-drop 1 c.self.inside.events.items,
    )

pub invariant_of-self : goal.invariant_of-self
invariant_of-self g c =
    let same = same_after c.self.inside.places.items c.self.inside.events.items c.self.invariant.0 in
    let on = c.go_on.ensures in (
      ap (λ b. length b.items) on
          ∙ placed_all c.args.at (drop 1 c.self.inside.places.items) c.take-decided.new.events.items (omega (
            arith,
            same,
            more_now c.args.pool.now c.take-decided.new.pool (drop 1 c.self.inside.events.items)
                c.take-decided.new.events.items
                (step (g.S.Stage.place c.args.stage.now) (g.S.Stage.layer c.args.stage.now)
                (g.S.Stage.state c.args.pool.now c.args.stage.now)
                (first_sent c.self.inside.events.items).0
                (event_seen c.args.pool.now (first_sent c.self.inside.events.items).1)).sent
                c.take-decided.ensures.sent,
          )),
      ap (λ b. b.capacity) on ∙ c.self.invariant.1 ∙ sym c.take-decided.ensures.capacity,
      omega (arith, ap (λ b. b.capacity) on, c.self.invariant.2),
    )

pub returns-clause-tasks : goal.returns-clause-tasks
returns-clause-tasks g c =
    let view = ap (λ (b : Buffer PoolTask). b.items) c.self.view_is in
    let first = first_event c.self.inside.places.items c.self.inside.events.items c.args.self.now.items
    c.self.invariant.0 view in
    ap (λ b. tasks_seen c.take-decided.new.pool (tasks_at b.items c.take-decided.new.events.items))
    c.go_on.ensures
    ∙ sent_after c.args.pool.now c.take-decided.new.pool c.args.at (drop 1 c.self.inside.places.items)
    (drop 1 c.self.inside.events.items)
    c.take-decided.new.events.items
    (step (g.S.Stage.place c.args.stage.now) (g.S.Stage.layer c.args.stage.now)
    (g.S.Stage.state c.args.pool.now c.args.stage.now)
    (first_sent c.self.inside.events.items).0
    (event_seen c.args.pool.now (first_sent c.self.inside.events.items).1)).sent
    (same_after c.self.inside.places.items c.self.inside.events.items c.self.invariant.0) c.take-decided.ensures.sent
    ∙ ap (λ ts. tasks_seen c.args.pool.now ts ++ tasks_of c.args.at (step (g.S.Stage.place c.args.stage.now)
    (g.S.Stage.layer c.args.stage.now) (g.S.Stage.state c.args.pool.now c.args.stage.now)
    (first_sent c.self.inside.events.items).0
    (event_seen c.args.pool.now (first_sent c.self.inside.events.items).1)).sent)
    (rest_at c.self.inside.places.items c.self.inside.events.items c.args.self.now.items c.self.invariant.0 view)
    ∙ ap (λ (x : Dir × PoolEvent). tasks_seen c.args.pool.now (drop 1 c.args.self.now.items) ++ tasks_of c.args.at
    (step (g.S.Stage.place c.args.stage.now) (g.S.Stage.layer c.args.stage.now)
    (g.S.Stage.state c.args.pool.now c.args.stage.now) x.0
    (event_seen c.args.pool.now x.1)).sent) (sym first)

pub returns-clause-moved : goal.returns-clause-moved
returns-clause-moved g c =
    let before = sym (refs_at c.self.inside.places.items c.self.inside.events.items c.self.invariant.0)
    ∙ ap (λ (b : Buffer PoolTask). tasks_refs b.items) c.self.view_is in
    let following = sym (refs_at c.go_on.new.places.items c.take-decided.new.events.items (invariant_of-self g c).0) in
    subst (λ rs. Moved c.args.pool.now c.take-decided.new.pool (g.S.Stage.refs c.args.stage.now ++ rs)
    (g.S.Stage.refs c.take-decided.new.self ++
    tasks_refs (tasks_at c.go_on.new.places.items c.take-decided.new.events.items))) before
    (subst (λ rs. Moved c.args.pool.now c.take-decided.new.pool
    (g.S.Stage.refs c.args.stage.now ++ sent_refs c.self.inside.events.items)
    (g.S.Stage.refs c.take-decided.new.self ++ rs)) following c.take-decided.ensures.moved)

pub returns-clause-lie : goal.returns-clause-lie
returns-clause-lie g c = lie_at c.take-decided.new.pool c.go_on.new.places.items c.take-decided.new.events.items
    c.take-decided.ensures.lie
