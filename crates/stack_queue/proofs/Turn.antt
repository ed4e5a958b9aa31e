-- One turn of a run over stages: what it asks is there, and the run goes on after it.
use Rattle.std.proofs.Common.{◌≡◌, ℕ, suc, ◌+◌, ◌-◌, ◌<◌, ◌≤◌, Bool, true, false, ◌&&◌, not, List, [], ◌∷◌, ◌++◌, map}
use Rattle.std.proofs.Common.{set, get_or, flat_map, drop, length, refl, sym, ap, ◌∙◌, subst, arith}
use Rattle.std.specs.Prelude.{nat_le}
use Rattle.std.proofs.lemmas.Bool.{leb-true}
use Rattle.std.proofs.lemmas.List.{length-append, get_or-map, map-set}
use Rattle.slot_pool.specs.Held.{Held, spare}
use Rattle.slot_pool.specs.References.{Moved, Covers}
use Rattle.layer_words.specs.declared.events.Dir.{Dir}
use Rattle.layer_mean.specs.State.{State}
use Rattle.layer_mean.specs.Tree.{LayerTree, no_layer}
use Rattle.layer_mean.specs.Visit.{Visited, step, no_state}
use Rattle.layer_mean.specs.Queue.{is_place, layer_at, tasks_of}
use Rattle.weight_laws.specs.Visits.{task_weight}
use Rattle.layer_desk.specs.Need.{most_above}
use Rattle.layer_eval.specs.declared.predicted.Predicted.{Predicted}
use Rattle.layer_eval.specs.Did.{as_predicted, both}
use Rattle.pool_message.specs.Seen.{event_refs, event_seen}
use Rattle.pool_message.specs.Sent.{sent_refs}
use Rattle.pool_message.specs.declared.event.PoolEvent.{PoolEvent}
use Rattle.layer_stage.specs.Room.{slots_needed, places_needed, headers_met, most_counted, most_kept, CountsWithin}
use Rattle.layer_stage.specs.Taken.{one_more}
use Rattle.stack_queue.specs.declared.tasks.PoolTask.{PoolTask}
use Rattle.stack_queue.specs.Pending.{first_task, tasks_seen, tasks_refs, TasksLie}
use Rattle.stack_queue.specs.Stages.{Stand}
use Rattle.stack_queue.specs.Taken.{counted_at}
use Rattle.stack_queue.specs.Going.{Begun, Now, BeginsWell, Going, weight_of}
use Rattle.stack_queue.proofs.Lists.{IsFirst}
use Rattle.stack_queue.proofs.Asked.{few_tasks, counts_within, headers_within, slots_within, places_within}
use Rattle.stack_queue.proofs.Stages.{as_many, few_refs, ready_at, visit_is, layer_at_place, covers_at, moved_all}
use Rattle.stack_queue.proofs.Stages.{stands, states_are}
use Rattle.stack_queue.proofs.Steps.{visit_of, visit_goes, visit_falls, output_goes, output_falls}

-- a run that goes on with equal tasks, outputs, decisions and visits
pub goes_with : (b : Begun) (p : List Held) (n : Now) → Going b p n →
    (tasks : List PoolTask) (out : List (Dir × PoolEvent)) (says : Predicted)
    (visits : ℕ) → n.tasks ≡ tasks → n.out ≡ out → n.predicted ≡ says → n.visits ≡ visits →
    Going b p (record {
      states = n.states;
      refs = n.refs;
      tasks = tasks;
      out = out;
      predicted = says;
      visits =
          visits;
      taken = n.taken;
    })
goes_with b p n g tasks out says visits ts os ps vs =
    subst (Going b p) (λ j.
    record {
      states = n.states;
      refs = n.refs;
      tasks = ts j;
      out = os j;
      predicted = ps j;
      visits = vs j;
      taken =
          n.taken;
    }) g

-- where a task isn't at an edge, it is at a place
pub placed_at : (places at : ℕ) (c : Bool) → c ≡ not (is_place places at) → c ≡ false → is_place places at ≡ true
placed_at places at c is not_so = go (is_place places at) (sym is ∙ not_so) where
  go : (x : Bool) → not x ≡ false → x ≡ true
  go true h = refl
  go false h = absurd (cc)

pub edge_at : (places at : ℕ) (c : Bool) → c ≡ not (is_place places at) → c ≡ true → is_place places at ≡ false
edge_at places at c is so = go (is_place places at) (sym is ∙ so) where
  go : (x : Bool) → not x ≡ true → x ≡ false
  go true h = absurd (cc)
  go false h = refl

both_true : (x y : Bool) → (x && y) ≡ true → (x ≡ true) × (y ≡ true)
both_true true y h = (refl, h)
both_true false y h = absurd (cc)

pub bounds : (places at : ℕ) → is_place places at ≡ true → (1 ≤ at) × (at ≤ places)
bounds places at placed =
    let parts = both_true (nat_le 1 at) (nat_le at places) placed in (leb-true 1 at parts.0, leb-true at places parts.1)

module _ {S : Type 0} (place : S → ℕ) (layer : S → LayerTree) (refs : S → List ℕ) (Ready : List Held → S → Type 0)
    (state : List Held → S → State) (taken : S → ℕ)
    (frame : (p q : List Held) (a b : List ℕ) (s : S) → Moved p q a b → Covers p (a ++ refs s) → Ready p s →
    Ready q s × (state q s ≡ state p s))
    (few : (p : List Held) (s : S) → Ready p s → length (refs s) ≤ most_kept)
    (b : Begun) (well : BeginsWell b) (p : List Held) (stages : List S)
    (stand : Stand place layer Ready b.stack p stages)
    (tasks : List PoolTask) (out : List (Dir × PoolEvent)) (says : Predicted) (visits : ℕ)
    (going : Going b p (record {
      states = map (state p) stages;
      refs = flat_map refs stages;
      tasks = tasks;
      out =
          out;
      predicted = says;
      visits = visits;
      taken = map taken stages;
    }))
    (at : ℕ) (is : IsFirst tasks at) where
  -- the first task, and those after it
  abbrev t : PoolTask
  t = first_task tasks

  abbrev rest : List PoolTask
  rest = drop 1 tasks

  abbrev now : Now
  now = record {
    states = map (state p) stages;
    refs = flat_map refs stages;
    tasks = t ∷ rest;
    out = out;
    predicted =
        says;
    visits = visits;
    taken = map taken stages;
  }

  front : Going b p (record {
    states = map (state p) stages;
    refs = flat_map refs stages;
    tasks = t ∷ rest;
    out =
        out;
    predicted = says;
    visits = visits;
    taken = map taken stages;
  })
  front = subst (λ ts. Going b p
      (record {
        states = map (state p) stages;
        refs = flat_map refs stages;
        tasks = ts;
        out = out;
        predicted =
            says;
        visits = visits;
        taken = map taken stages;
      })) is.0 going

  -- an output has a place
  pub output_fits : length out < length b.out + task_weight b.stack b.first
  output_fits = omega (
    arith,
    front.weight,
    few_tasks b well p now front,
    ap length front.following,
    length-append b.out front.news,
  )

  pub puts_out : is_place (length b.stack) at ≡ false →
      Going b p (record {
        states = map (state p) stages;
        refs = flat_map refs stages;
        tasks = rest;
        out = out ++
            (t.direction, t.event) ∷ [];
        predicted = says;
        visits = visits;
        taken = map taken stages;
      })
  puts_out edge = output_goes b well p (map (state p) stages) (flat_map refs stages) t rest now front
      (ap (is_place (length b.stack)) is.1 ∙ edge)

  pub falls_out : is_place (length b.stack) at ≡ false → suc (weight_of b p rest) ≤ weight_of b p tasks
  falls_out edge = omega (
    arith,
    output_falls b well p (map (state p) stages) (flat_map refs stages) t rest now front
        (ap (is_place (length b.stack)) is.1 ∙ edge),
    ap (weight_of b p) is.0,
  )

  -- a visit has what it asks
  module _ (at_place : is_place (length b.stack) at ≡ true) (k : ℕ) (k_at : k ≡ at - 1) (d : S) where
    placed : is_place (length b.stack) t.at ≡ true
    placed = ap (is_place (length b.stack)) is.1 ∙ at_place

    k_is : k ≡ t.at - 1
    k_is = k_at ∙ ap (λ n. n - 1) (sym is.1)

    lt : k < length b.stack
    lt = let within = bounds (length b.stack) t.at placed in omega (arith, k_is, within.0, within.1)

    pub is_ready : Ready p (get_or stages k d)
    is_ready = ready_at place layer refs Ready state frame few b.stack p stages stand k lt d

    pub counts_are : CountsWithin most_counted p
    counts_are = counts_within b well p (map (state p) stages) (flat_map refs stages) t rest now front
        (few_refs place layer refs Ready state frame few b.stack p stages stand well.few)

    pub headers_are : headers_met t.direction (event_seen p t.event) ≤ most_above
    headers_are = headers_within b well p (map (state p) stages) (flat_map refs stages) t rest now front
        (bounds (length b.stack) t.at placed).0

    same_layer : layer (get_or stages k d) ≡ layer_at b.stack t.at
    same_layer = layer_at_place place layer refs Ready state frame few b.stack p stages stand k lt d ∙
        ap (λ i. get_or b.stack i no_layer) k_is

    pub slots_suffice : slots_needed (layer (get_or stages k d)) t.direction (event_seen p t.event) ≤ spare p
    slots_suffice = omega (
      arith,
      ap (λ l. slots_needed l t.direction (event_seen p t.event)) same_layer,
      slots_within b well p (map (state p) stages) (flat_map refs stages) t rest now front placed,
    )

    pub places_suffice : length rest + places_needed (layer (get_or stages k d)) t.direction (event_seen p t.event) ≤
        task_weight b.stack b.first
    places_suffice = omega (
      arith,
      ap (λ l. places_needed l t.direction (event_seen p t.event)) same_layer,
      places_within b well p (map (state p) stages) (flat_map refs stages) t rest now front placed,
    )

    -- the references of the event that is taken, and of the other tasks
    abbrev pending : List ℕ
    pending = event_refs t.event ++ tasks_refs rest

    all_covered : Covers p (flat_map refs stages ++ (pending ++ sent_refs out))
    all_covered = front.covers

    pub covers_it : Covers p (refs (get_or stages k d) ++ tasks_refs tasks)
    covers_it = subst (λ ts. Covers p (refs (get_or stages k d) ++ tasks_refs ts)) (sym is.0)
        (covers_at place layer refs Ready state frame few b.stack p stages stand k lt d pending (sent_refs out)
        all_covered)

    -- and after it the run goes on
    module _ (q : List Held) (s' : S) (after : List PoolTask) (decided : Predicted)
        (moved : Moved p q (refs (get_or stages k d) ++ tasks_refs tasks) (refs s' ++ tasks_refs after))
        (spent : spare p ≤ spare q + slots_needed (layer (get_or stages k d)) t.direction (event_seen p t.event))
        (lie : TasksLie q after) (ready : Ready q s')
        (state_is : state q s' ≡
        (step (place (get_or stages k d)) (layer (get_or stages k d)) (state p (get_or stages k d)) t.direction
        (event_seen p t.event)).state)
        (tasks_are : tasks_seen q after ≡ tasks_seen p rest ++
        tasks_of at (step (place (get_or stages k d)) (layer (get_or stages k d)) (state p (get_or stages k d))
        t.direction (event_seen p t.event)).sent)
        (decided_is : decided ≡
        as_predicted (step (place (get_or stages k d)) (layer (get_or stages k d)) (state p (get_or stages k d))
        t.direction (event_seen p t.event)).decided) where
      first_moved : Moved p q (refs (get_or stages k d) ++ pending) (refs s' ++ tasks_refs after)
      first_moved = subst (λ ts. Moved p q (refs (get_or stages k d) ++ tasks_refs ts) (refs s' ++ tasks_refs after))
          is.0 moved

      same_visit : step (place (get_or stages k d)) (layer (get_or stages k d)) (state p (get_or stages k d))
          t.direction (event_seen p t.event)
          ≡ visit_of b p (map (state p) stages) t
      same_visit = visit_is place layer refs Ready state frame few b.stack p stages stand k lt d t.direction
          (event_seen p t.event)
          ∙ ap (λ i. step i (get_or b.stack i no_layer) (get_or (map (state p) stages) i no_state) t.direction
          (event_seen p t.event)) k_is

      shown : map (state q) (set stages k s') ≡
          set (map (state p) stages) (t.at - 1) (visit_of b p (map (state p) stages) t).state
      shown = states_are place layer refs Ready state frame few b.stack p stages stand k lt d pending (sent_refs out)
          all_covered q s' (tasks_refs after) first_moved ready
          ∙ (λ j. set (map (state p) stages) (k_is j) ((state_is ∙ ap (λ (v : Visited). v.state) same_visit) j))

      shown_tasks : tasks_seen q after ≡ tasks_seen p rest ++ tasks_of t.at (visit_of b p (map (state p) stages) t).sent
      shown_tasks = tasks_are ∙ (λ j. tasks_seen p rest ++ tasks_of (sym is.1 j) (same_visit j).sent)

      moved_on : Moved p q (flat_map refs stages ++ pending) (flat_map refs (set stages k s') ++ tasks_refs after)
      moved_on = moved_all place layer refs Ready state frame few b.stack p stages stand k lt d pending (sent_refs out)
          all_covered q s' (tasks_refs after) first_moved

      spent_on : spare p ≤ spare q + slots_needed (layer_at b.stack t.at) t.direction (event_seen p t.event)
      spent_on = omega (arith, spent, ap (λ l. slots_needed l t.direction (event_seen p t.event)) same_layer)

      counted : taken s' ≡ one_more (taken (get_or stages k d)) → map taken (set stages k s') ≡
          counted_at (map taken stages) t.at
      counted more = map-set taken stages k s'
          ∙ ap (set (map taken stages) k)
          (more ∙ ap one_more (sym
          (get_or-map taken stages k d 0
          (omega (arith, lt, as_many place layer refs Ready state frame few b.stack p stages stand)))))
          ∙ ap (λ i. set (map taken stages) i (one_more (get_or (map taken stages) i 0))) k_is

      pub visit_goes_on : taken s' ≡ one_more (taken (get_or stages k d)) → Going b q (record {
        states = map (state q) (set stages k s');
        refs = flat_map refs (set stages k s');
        tasks = after;
        out = out;
        predicted = both says decided;
        visits = visits + 1;
        taken = map taken (set stages k s');
      })
      visit_goes_on more = visit_goes b well p (map (state p) stages) (flat_map refs stages) t rest now front placed q
          (map (state q) (set stages k s'))
          (flat_map refs (set stages k s')) after decided moved_on spent_on lie shown
          shown_tasks
          (decided_is ∙ ap (λ (v : Visited). as_predicted v.decided) same_visit) (map taken (set stages k s'))
          (counted more)

      pub visit_stands : place s' ≡ place (get_or stages k d) → layer s' ≡ layer (get_or stages k d) →
          Stand place layer Ready b.stack q (set stages k s')
      visit_stands same_place same_layer = stands place layer refs Ready state frame few b.stack p stages stand k lt d
          pending (sent_refs out) all_covered q s'
          (tasks_refs after) first_moved ready same_place same_layer

      pub falls : suc (weight_of b q after) ≤ weight_of b p tasks
      falls = omega (
        arith,
        visit_falls b well p (map (state p) stages) (flat_map refs stages) t rest now front placed q
            (map (state q) (set stages k s'))
            (flat_map refs (set stages k s')) after decided moved_on spent_on lie shown
            shown_tasks
            (decided_is ∙ ap (λ (v : Visited). as_predicted v.decided) same_visit),
        ap (weight_of b p) is.0,
      )
