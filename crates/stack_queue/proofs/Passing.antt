-- A task that alone is pending passes layers.
use Rattle.std.proofs.Common.{◌≡◌, ℕ, suc, ◌+◌, ◌-◌, ◌<◌, ◌≤◌, ◌^◌, Bool, true, false, ◌&&◌, if◌then◌else◌, List, []}
use Rattle.std.proofs.Common.{◌∷◌, ◌++◌, map, set, get_or, flat_map, length, refl, sym, ap, ◌∙◌, subst, arith}
use Rattle.slot_pool.specs.Held.{Held}
use Rattle.slot_pool.specs.References.{Moved, Covers}
use Rattle.slot_pool.proofs.References.{moved-same}
use Rattle.layer_words.specs.declared.events.Dir.{Dir}
use Rattle.layer_mean.specs.State.{State}
use Rattle.layer_mean.specs.Tree.{LayerTree}
use Rattle.layer_mean.specs.Visit.{Visited, step, none_header}
use Rattle.layer_mean.specs.Queue.{is_place, beyond, tasks_of}
use Rattle.layer_eval.specs.declared.predicted.Predicted.{Predicted}
use Rattle.layer_eval.specs.Did.{as_predicted, both}
use Rattle.layer_stage.specs.Passes.{is_passed, passed_by}
use Rattle.layer_stage.specs.Room.{most_kept}
use Rattle.layer_stage.specs.Taken.{one_more}
use Rattle.layer_stage.proofs.Passed.{sends, passes_on, same_message, still_lies, can_pass}
use Rattle.pool_message.specs.Seen.{event_seen}
use Rattle.pool_message.specs.Sent.{CanPass, first_sent}
use Rattle.pool_message.specs.declared.event.PoolEvent.{PoolEvent}
use Rattle.stack_queue.specs.declared.tasks.PoolTask.{PoolTask}
use Rattle.stack_queue.specs.Pending.{first_task, tasks_at, tasks_refs, TasksLie}
use Rattle.stack_queue.specs.Stages.{Stand}
use Rattle.stack_queue.specs.Going.{Begun, BeginsWell, Going, weight_of}
use Rattle.stack_queue.specs.Passing.{Rest, GoesWith, Continues, standing_at}
use Rattle.stack_queue.proofs.Stages.{as_many, ready_at}
use Rattle.stack_queue.proofs.Turn.{bounds, goes_with, headers_are, visit_goes_on, visit_stands, falls}

and_true : (x : Bool) → (x && true) ≡ x
and_true true = refl
and_true false = refl

-- Where nothing is decided, all decisions went as they did.
usual_adds_nothing : (says : Predicted) → both says (as_predicted []) ≡ says
usual_adds_nothing says = λ j. record { first = and_true says.first j; second = and_true says.second j }

-- The only task.
pub only_task : (places : List ℕ) (xs : List (Dir × PoolEvent)) (tasks : List PoolTask) (at : ℕ) →
    length places ≡ length xs → tasks_at places xs ≡ tasks →
    length xs ≡ 1 → (first_task tasks).at ≡ at → tasks ≡ standing_at at (first_sent xs) ∷ []
only_task [] [] tasks at same view one first = absurd (omega (arith, one))
only_task [] (x ∷ xs) tasks at same view one first = absurd (omega (arith, same))
only_task (to ∷ places) [] tasks at same view one first = absurd (omega (arith, same))
only_task (to ∷ []) (x ∷ []) tasks at same view one first =
    sym view ∙ (λ j. standing_at ((ap (λ ts. (first_task ts).at) view ∙ first) j) x ∷ [])
only_task (to ∷ []) (x ∷ y ∷ xs) tasks at same view one first = absurd (omega (arith, one))
only_task (to ∷ next ∷ places) (x ∷ []) tasks at same view one first = absurd (omega (arith, same))
only_task (to ∷ next ∷ places) (x ∷ y ∷ xs) tasks at same view one first = absurd (omega (arith, one))

module _ {S : Type 0} (place : S → ℕ) (layer : S → LayerTree) (refs : S → List ℕ) (Ready : List Held → S → Type 0)
    (state : List Held → S → State) (taken : S → ℕ) where
  -- A run that goes on here goes on there.
  module _ (b : Begun) (well : BeginsWell b) (few : b.visits ≤ 2 ^ 63) (p : List Held) (out : List (Dir × PoolEvent))
      (says : Predicted)
      (stages : List S) (tasks : List PoolTask) (visits : ℕ) (stand : Stand place layer Ready b.stack p stages)
      (going : Going b p (record {
        states = map (state p) stages;
        refs = flat_map refs stages;
        tasks = tasks;
        out =
            out;
        predicted = says;
        visits = visits;
        taken = map taken stages;
      }))
      (stages' : List S) (tasks' : List PoolTask) (visits' : ℕ)
      (on : Continues place layer refs Ready state taken stages tasks visits stages' tasks' visits') where
    abbrev rest : Rest
    rest = record { begun = b; pool = p; out = out; predicted = says }

    pub carried : GoesWith place layer refs Ready state taken rest stages' tasks' visits'
    carried = on.goes rest (record { well = well; few = few; stand = stand; going = going })

    pub carried_lighter : weight_of b p tasks' ≤ weight_of b p tasks
    carried_lighter = on.lighter rest (record { well = well; few = few; stand = stand; going = going })

  module _ (frame : (p q : List Held) (a b : List ℕ) (s : S) → Moved p q a b → Covers p (a ++ refs s) → Ready p s →
      Ready q s × (state q s ≡ state p s))
      (few : (p : List Held) (s : S) → Ready p s → length (refs s) ≤ most_kept) where
    module _ (r : Rest) (stages : List S) (at : ℕ) (sent : Dir × PoolEvent) (visits : ℕ)
        (g : GoesWith place layer refs Ready state taken r stages (standing_at at sent ∷ []) visits) where
      module _ (placed : is_place (length stages) at ≡ true) (k : ℕ) (k_at : k ≡ at - 1) (d : S) where
        at_place : is_place (length r.begun.stack) at ≡ true
        at_place = ap (λ n. is_place n at)
            (sym (as_many place layer refs Ready state frame few r.begun.stack r.pool stages g.stand)) ∙ placed

        pub room : CanPass sent.0 sent.1.message
        room = can_pass r.pool sent.0 sent.1.message
            (headers_are place layer refs Ready state taken frame few r.begun g.well r.pool stages g.stand
            (standing_at at sent ∷ []) r.out r.predicted visits g.going
            at (refl, refl) at_place k k_at d)

        pub low : (1 ≤ at) × (at ≤ 255)
        low = let within = bounds (length r.begun.stack) at at_place in (within.0, omega (arith, within.1, g.well.few))

        lt : k < length r.begun.stack
        lt = let within = bounds (length r.begun.stack) at at_place in omega (arith, within.0, within.1, k_at)

        abbrev old : S
        old = get_or stages k d

        module _ (s' : S) (same_refs : refs s' ≡ refs old) (still : (p : List Held) → Ready p old → Ready p s')
            (same_state : (p : List Held) → state p s' ≡ state p old) (same_place : place s' ≡ place old)
            (same_layer : layer s' ≡ layer old)
            (more : taken s' ≡ one_more (taken old))
            (passes : (p : List Held) → is_passed (layer old) sent.0 (event_seen p sent.1) ≡ true) where
          abbrev following : Dir × PoolEvent
          following = (sent.0, passed_by (place old) sent.0 sent.1)

          abbrev after : List PoolTask
          after = standing_at (beyond sent.0 at) following ∷ []

          visit : step (place old) (layer old) (state r.pool old) sent.0 (event_seen r.pool sent.1) ≡
              sends (state r.pool old) sent.0 (event_seen r.pool following.1)
          visit = passes_on (place old) (state r.pool old) (layer old) r.pool sent.0 sent.1 (passes r.pool)

          refs_are : refs s' ++ tasks_refs after ≡ refs old ++ tasks_refs (standing_at at sent ∷ [])
          refs_are = λ j. same_refs j ++ (same_message sent.0 (none_header (place old)) sent.1.message j ++ [])

          moved : Moved r.pool r.pool (refs old ++ tasks_refs (standing_at at sent ∷ [])) (refs s' ++ tasks_refs after)
          moved = subst (λ xs. Moved r.pool r.pool (refs old ++ tasks_refs (standing_at at sent ∷ [])) xs)
              (sym refs_are)
              (moved-same r.pool (refs old ++ tasks_refs (standing_at at sent ∷ [])))

          lie : TasksLie r.pool after
          lie = (still_lies r.pool sent.0 (none_header (place old)) sent.1.message g.going.tasks_lie.0, tt)

          ready : Ready r.pool s'
          ready = still r.pool (ready_at place layer refs Ready state frame few r.begun.stack r.pool stages g.stand k lt
              d)

          -- The run goes on where the event has passed.
          pub turned : GoesWith place layer refs Ready state taken r (set stages k s') after (visits + 1)
          turned = record {
            well = g.well;
            few = g.few;
            stand = visit_stands place layer refs Ready state taken frame few r.begun g.well r.pool stages g.stand
                (standing_at at sent ∷ []) r.out r.predicted visits g.going
                at (refl, refl) at_place k k_at d r.pool s' after (as_predicted []) moved (omega arith) lie ready
                (same_state r.pool ∙ sym (ap (λ (v : Visited). v.state) visit))
                (sym (ap (λ (v : Visited). tasks_of at v.sent) visit))
                (sym (ap (λ (v : Visited). as_predicted v.decided) visit)) same_place same_layer;
            going = goes_with r.begun r.pool _
                (visit_goes_on place layer refs Ready state taken frame few r.begun g.well r.pool stages g.stand
                (standing_at at sent ∷ []) r.out r.predicted visits g.going
                at (refl, refl) at_place k k_at d r.pool s' after (as_predicted []) moved (omega arith) lie ready
                (same_state r.pool ∙ sym (ap (λ (v : Visited). v.state) visit))
                (sym (ap (λ (v : Visited). tasks_of at v.sent) visit))
                (sym (ap (λ (v : Visited). as_predicted v.decided) visit)) more)
                after r.out r.predicted (visits + 1) refl refl (usual_adds_nothing r.predicted) refl;
          }

          pub lightened : suc (weight_of r.begun r.pool after) ≤ weight_of r.begun r.pool (standing_at at sent ∷ [])
          lightened = falls place layer refs Ready state taken frame few r.begun g.well r.pool stages g.stand
              (standing_at at sent ∷ []) r.out r.predicted visits g.going
              at (refl, refl) at_place k k_at d r.pool s' after (as_predicted []) moved (omega arith) lie ready
              (same_state r.pool ∙ sym (ap (λ (v : Visited). v.state) visit))
              (sym (ap (λ (v : Visited). tasks_of at v.sent) visit))
              (sym (ap (λ (v : Visited). as_predicted v.decided) visit))

    -- A layer that is asked to let the event pass does so, after what went before.
    module _ (first : List S) (tasks : List PoolTask) (begun : ℕ) (stages : List S) (at : ℕ) (sent : Dir × PoolEvent)
        (visits : ℕ)
        (on : Continues place layer refs Ready state taken first tasks begun stages (standing_at at sent ∷ []) visits)
        (placed : is_place (length stages) at ≡ true) (k : ℕ) (k_at : k ≡ at - 1) (d : S)
        (s' : S) (dir : Dir) (dir_is : sent.0 ≡ dir) (did : Bool) (event : PoolEvent)
        (passes : (p : List Held) → did ≡ is_passed (layer (get_or stages k d)) dir (event_seen p sent.1))
        (event_is : event ≡ (if did then passed_by (place (get_or stages k d)) dir sent.1 else sent.1)) where
      pub passes_one : did ≡ true → refs s' ≡ refs (get_or stages k d) →
          ((p : List Held) → Ready p (get_or stages k d) → Ready p s') →
          ((p : List Held) → state p s' ≡ state p (get_or stages k d)) → place s' ≡ place (get_or stages k d) →
          layer s' ≡ layer (get_or stages k d) →
          taken s' ≡ (if did then one_more (taken (get_or stages k d)) else taken (get_or stages k d)) →
          (to : ℕ) → to ≡ beyond dir at →
          Continues place layer refs Ready state taken first tasks begun (set stages k s')
          (standing_at to (sent.0, event) ∷ []) (visits + 1)
      passes_one so same_refs still same_state same_place same_layer more to to_is =
          subst (λ ts. Continues place layer refs Ready state taken first tasks begun (set stages k s') ts (visits + 1))
          (λ j. standing_at (sym to_here j) (sent.0, sym is j) ∷ [])
          (record {
            goes = λ r g. turned r stages at sent visits (on.goes r g) placed k k_at d s' same_refs still same_state
                same_place same_layer one_taken true_of;
            lighter = λ r g.
                let less = lightened r stages at sent visits (on.goes r g) placed k k_at d s' same_refs still same_state
                same_place same_layer one_taken true_of in
                let before = on.lighter r g in omega arith;
          }) where
            is : event ≡ passed_by (place (get_or stages k d)) sent.0 sent.1
            is = event_is ∙ ap (λ c. if c then passed_by (place (get_or stages k d)) dir sent.1 else sent.1) so
                ∙ ap (λ x. passed_by (place (get_or stages k d)) x sent.1) (sym dir_is)

            one_taken : taken s' ≡ one_more (taken (get_or stages k d))
            one_taken = more ∙ ap (λ c. if c then one_more (taken (get_or stages k d)) else taken (get_or stages k d))
                so

            to_here : to ≡ beyond sent.0 at
            to_here = to_is ∙ ap (λ x. beyond x at) (sym dir_is)

            true_of : (p : List Held) → is_passed (layer (get_or stages k d)) sent.0 (event_seen p sent.1) ≡ true
            true_of p = ap (λ x. is_passed (layer (get_or stages k d)) x (event_seen p sent.1)) dir_is ∙
                sym (passes p) ∙ so
