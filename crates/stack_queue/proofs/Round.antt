-- An event passes one layer while others are pending, and its task becomes the last.
use Rattle.std.proofs.Common.{◌-◌, ◌≡◌, ℕ, ◌<◌, Bool, true, false, ◌&&◌, List, [], ◌∷◌, ◌++◌, drop, length, refl, sym}
use Rattle.std.proofs.Common.{ap, subst, ◌∙◌, arith}
use Rattle.std.proofs.lemmas.List.{map-append}
use Rattle.circular_buffer.specs.Buffer.{Buffer, buffer}
use Rattle.slot_pool.specs.Held.{Held}
use Rattle.slot_pool.specs.References.{Moved}
use Rattle.slot_pool.specs.Times.{times}
use Rattle.slot_pool.proofs.References.{moved-same, moved-reordered}
use Rattle.slot_pool.proofs.Times.{times-append}
use Rattle.layer_words.specs.declared.events.Dir.{Dir}
use Rattle.layer_mean.specs.State.{State}
use Rattle.layer_mean.specs.Tree.{LayerTree}
use Rattle.layer_mean.specs.Visit.{Visited, step, none_header}
use Rattle.layer_mean.specs.Queue.{beyond, tasks_of}
use Rattle.layer_eval.specs.Did.{as_predicted, both}
use Rattle.layer_eval.specs.declared.predicted.Predicted.{Predicted}
use Rattle.layer_stage.specs.Passes.{passed_by}
use Rattle.layer_stage.proofs.Passed.{sends, passes_on, same_message, still_lies}
use Rattle.pool_message.specs.Seen.{event_refs, event_seen, EventLies}
use Rattle.pool_message.specs.Sent.{first_sent}
use Rattle.pool_message.specs.declared.event.PoolEvent.{PoolEvent}
use Rattle.stack_queue.specs.declared.tasks.PoolTask.{PoolTask}
use Rattle.stack_queue.specs.Pending.{first_task, task_seen, tasks_seen, tasks_refs, TasksLie, tasks_at}
use Rattle.stack_queue.specs.Round.{HasPassed, HasGoneRound, sent_by}
use Rattle.stack_queue.proofs.Lists.{first_event, rest_at, same_after, pushed}
use Rattle.stack_queue.proofs.Refs.{all_both, each_both}

-- where nothing was decided, what was decided before stays
pub joins_none : (p : Predicted) → p ≡ both p (as_predicted [])
joins_none p = (λ j. record { first = stays p.first j; second = stays p.second j }) where
  stays : (b : Bool) → b ≡ (b && true)
  stays true = refl
  stays false = refl

module _ {S : Type 0} (place : S → ℕ) (layer : S → LayerTree) (refs : S → List ℕ) (Ready : List Held → S → Type 0)
    (state : List Held → S → State) (taken : S → ℕ) (s s' : S) where
  -- Places and events each lose their first and gain what was sent on as their last: so the tasks have gone round.
  pub goes_round : (ps : Buffer ℕ) (es : List (Dir × PoolEvent)) (tasks : Buffer PoolTask) →
      length ps.items ≡ length es →
      buffer (tasks_at ps.items es) (ps.capacity - 1) ≡ tasks → (sent w : Dir × PoolEvent) → sent ≡ first_sent es →
      HasPassed place layer refs Ready state taken s sent s' w → (at to : ℕ) (dir : Dir) → (first_task tasks.items).at ≡
      at →
      dir ≡ (first_sent es).0 → to ≡ beyond dir at →
      (now : Buffer ℕ) (events : Buffer (Dir × PoolEvent)) → now ≡ buffer (drop 1 ps.items ++ to ∷ []) ps.capacity →
      events.items ≡ drop 1 es ++ w ∷ [] →
      HasGoneRound place layer refs Ready state taken s tasks s'
      (buffer (tasks_at now.items events.items) (now.capacity - 1))
  goes_round ps es tasks same view sent w sent_is passed at to dir first dir_is to_is now events placed turned =
      record {
        task = record { at = to; direction = w.0; event = w.1 };
        passed = subst (λ x. HasPassed place layer refs Ready state taken s x s' w) (sent_is ∙ sym was) passed;
        to = to_is ∙ (λ j. beyond (way j) (sym first j));
        round = (λ j. buffer (tasks_at (placed j).items (turned j)) ((placed j).capacity - 1))
            ∙ ap (λ ts. buffer ts (ps.capacity - 1))
            (pushed (drop 1 ps.items) (drop 1 es) to w.0 w.1 (same_after ps.items es same))
            ∙ (λ j. buffer (following j ++ record { at = to; direction = w.0; event = w.1 } ∷ [])
            ((ap (λ b. b.capacity) view) j));
      } where
        was : sent_by (first_task tasks.items) ≡ first_sent es
        was = first_event ps.items es tasks.items same (ap (λ b. b.items) view)

        way : dir ≡ (first_task tasks.items).direction
        way = dir_is ∙ ap (λ (x : Dir × PoolEvent). x.0) (sym was)

        following : tasks_at (drop 1 ps.items) (drop 1 es) ≡ drop 1 tasks.items
        following = rest_at ps.items es tasks.items same (ap (λ b. b.items) view)

  -- Going round is the visit of a layer that has no handler for the event.
  module _ (p : List Held) (tasks after : Buffer PoolTask)
      (on : HasGoneRound place layer refs Ready state taken s tasks s' after) (at : ℕ)
      (first : (first_task tasks.items).at ≡ at) where
    abbrev t : PoolTask
    t = first_task tasks.items

    abbrev rest : List PoolTask
    rest = drop 1 tasks.items

    abbrev visit : Visited
    visit = step (place s) (layer s) (state p s) t.direction (event_seen p t.event)

    visit_is : visit ≡ sends (state p s) t.direction (event_seen p (passed_by (place s) t.direction t.event))
    visit_is = passes_on (place s) (state p s) (layer s) p t.direction t.event (on.passed.passes p)

    pub round_state : state p s' ≡ visit.state
    round_state = on.passed.same_state p ∙ sym (ap (λ (v : Visited). v.state) visit_is)

    pub round_tasks : tasks_seen p after.items ≡ tasks_seen p rest ++ tasks_of at visit.sent
    round_tasks = ap (λ (b : Buffer PoolTask). tasks_seen p b.items) on.round ∙
        map-append (task_seen p) rest (on.task ∷ [])
        ∙ (λ j. tasks_seen p rest
        ++ record {
          at = (on.to ∙ ap (beyond t.direction) first) j;
          dir = (on.passed.event j).0;
          event =
              event_seen p (on.passed.event j).1;
        } ∷ [])
        ∙ ap (λ (v : Visited). tasks_seen p rest ++ tasks_of at v.sent) (sym visit_is)

    pub round_predicted : as_predicted [] ≡ as_predicted visit.decided
    round_predicted = sym (ap (λ (v : Visited). as_predicted v.decided) visit_is)

    same_event : event_refs on.task.event ≡ event_refs t.event
    same_event = ap (λ (x : Dir × PoolEvent). event_refs x.1) on.passed.event ∙
        same_message t.direction (none_header (place s)) t.event.message

    refs_round : (ts : List PoolTask) → 0 < length ts → event_refs on.task.event ≡ event_refs (first_task ts).event →
        (i : ℕ) → times i (tasks_refs ts) ≡ times i (tasks_refs (drop 1 ts ++ on.task ∷ []))
    refs_round [] some same i = absurd (omega (arith, some))
    refs_round (x ∷ xs) some same i = omega (
      arith,
      ap (times i) same,
      times-append i (event_refs x.event) (tasks_refs xs),
      times-append i (event_refs on.task.event) [],
      each_both (λ (u : PoolTask). event_refs u.event) xs (on.task ∷ []) i,
    )

    pub round_moved : 0 < length tasks.items →
        Moved p p (refs s ++ tasks_refs tasks.items) (refs s' ++ tasks_refs after.items)
    round_moved some = moved-reordered p p (refs s ++ tasks_refs tasks.items) (refs s ++ tasks_refs tasks.items)
        (refs s ++ tasks_refs tasks.items)
        (refs s' ++ tasks_refs after.items) (λ i. refl)
        (λ i. omega (
          arith,
          times-append i (refs s) (tasks_refs tasks.items),
          times-append i (refs s') (tasks_refs after.items),
          ap (times i) on.passed.same_refs,
          refs_round tasks.items some same_event i,
          ap (λ (b : Buffer PoolTask). times i (tasks_refs b.items)) on.round,
        ))
        (moved-same p (refs s ++ tasks_refs tasks.items))

    lie_round : (ts : List PoolTask) → 0 < length ts → TasksLie p ts → EventLies p (first_task ts).event ×
        TasksLie p (drop 1 ts)
    lie_round [] some lie = absurd (omega (arith, some))
    lie_round (x ∷ xs) some lie = lie

    pub round_lie : 0 < length tasks.items → TasksLie p tasks.items → TasksLie p after.items
    round_lie some lie =
        let both = lie_round tasks.items some lie in
        subst (λ (b : Buffer PoolTask). TasksLie p b.items) (sym on.round)
        (all_both (λ (u : PoolTask). EventLies p u.event) rest (on.task ∷ []) both.1 (
          subst (λ (x : Dir × PoolEvent). EventLies p x.1) (sym on.passed.event)
              (still_lies p t.direction (none_header (place s)) t.event.message both.0),
          tt,
        ))
