-- The decisions of a run are those of its entry's shape, as far as they go as predicted.
use Rattle.std.proofs.Common.{◌≡◌, ◌∙◌, ℕ, zero, suc, ◌+◌, ◌-◌, Bool, true, false, ◌&&◌, List, [], ◌∷◌, ◌++◌, map}
use Rattle.std.proofs.Common.{length, Option, Some, None, refl, sym, ap, subst, arith}
use Rattle.std.specs.Prelude.{MatchBool, bytes_eq, if◌then◌else◌, nat_lt, replicate, slice_get, slice_index_or}
use Rattle.std.specs.Prelude.{option_map, Result, Ok, Err}
use Rattle.std.specs.List.{sum_by}
use Rattle.std.specs.Option.{option_and_then, option_map_or}
use Rattle.std.proofs.lemmas.List.{append-nil, map-append}
use Rattle.std.proofs.lemmas.List.Quantifiers.{position-Some}
use Rattle.std.proofs.lemmas.List.Sums.{sum_by-append, sum_by-cons}
use Rattle.std.proofs.lemmas.Slice.Eq.{bytes_eq-Decides}
use denote.Enum.Bare.{sameb, same_true}
use Rattle.msg_core.specs.declared.message.Header.{Header}
use Rattle.msg_core.specs.declared.packet.Dest.{Dest}
use Rattle.msg_core.specs.declared.packet.Dest.TheVariants as dest
use Rattle.msg_core.specs.declared.packet.Packet.{Packet}
use Rattle.layer_words.specs.contracts.events.Kind as kind_row
use Rattle.layer_words.specs.declared.events.Dir.{Dir}
use Rattle.layer_mean.specs.declared.run.Case.{Case}
use Rattle.layer_mean.specs.declared.run.Case.TheVariants.{First, Second}
use Rattle.layer_mean.specs.declared.run.Event.{Event}
use Rattle.layer_mean.specs.Headers.{header_of_tag}
use Rattle.layer_mean.specs.Tree.{LayerTree}
use Rattle.layer_mean.specs.State.{State}
use Rattle.layer_mean.specs.Effect.{Decision}
use Rattle.layer_mean.specs.Visit.{step}
use Rattle.layer_mean.specs.Queue.{Task, Line, Player, Work, taken_turn, layers, layer_at, state_at, is_place, next_of}
use Rattle.layer_mean.specs.Queue.{run_for, run}
use Rattle.layer_mean.specs.Marked.{Logged, Marked, Log, marking_player, marked_start}
use Rattle.packet_mean.specs.Chained.{IsChain}
use Rattle.packet_mean.specs.Plan.{agree, fields_of, fits, kind_of, least_fit, tags_of}
use Rattle.packet_mean.specs.declared.here.Here.{Here}
use Rattle.stack_mean.specs.Acceptance.{weight_limit}
use Rattle.stack_mean.specs.NoShape.{NoShape, drawn_from}
use Rattle.stack_mean.specs.NoShape as no_shape
use Rattle.stack_mean.specs.Drawn.{DrawnEvent, DrawnVisit, drawn_visit}
use Rattle.stack_mean.specs.Plan.{Plan}
use Rattle.stack_mean.specs.Plans.{plans_of}
use Rattle.stack_mean.specs.Shape.{Progress, visits_limit, drawn_turn, shaper, undrawn, Known, entry_headers}
use Rattle.stack_mean.specs.Shape.{entry_task, has_second_case, Shape, shape_visit, shape_with, shape_of}
use Rattle.stack_mean.specs.Shape.{drawn_shape, shape}
use Rattle.stack_mean.specs.Shape as entry
use Rattle.run_mean.specs.Common.{entry_of, plan_entry}
use Rattle.run_mean.specs.Member.{Entered, app_cast, app_send, app_leave, clock_tick, from_peer, from_below, first_task}
use Rattle.run_mean.specs.Member.{step_from}
use Rattle.chain_laws.proofs.Lists.{there}
use Rattle.shape_laws.specs.Bare.{BareNext, BareRun}
use Rattle.shape_laws.specs.Known.{Pairwise, IsKnownAs, HeadersAre, EventIs, TaskIs, BeginsAs}
use Rattle.shape_laws.specs.Law.{run_start}
use Rattle.shape_laws.proofs.Marks.{logs_tell_runs}
use Rattle.shape_laws.proofs.Runs.{DrawnLine, RunLine, InStep, first_turn, runs_in_step}
use Rattle.member_laws.specs.Steps.{IsStep}
use Rattle.member_laws.proofs.Bare.{typed_runs_are_bare}
use Rattle.member_laws.proofs.Wires.{first_is as first_is_chained}
use Rattle.replay_laws.specs.Missed.{visit_decisions, shape_decisions, MissedIsOnTheWay, PredictedDecideAll}
use Rattle.replay_laws.proofs.Counts.{Counts, counts_both, counts_all, counts_missed, visit_counts, IsDrawn}

-- the decisions of what a drawing visited
abbrev total : Case → List LayerTree → List (Logged DrawnEvent) → ℕ
total case stack visits = sum_by (visit_decisions case stack) (map shape_visit visits)

total_more : (case : Case) (stack : List LayerTree) (visits : List (Logged DrawnEvent)) (x : Logged DrawnEvent) →
    total case stack (visits ++ x ∷ []) ≡ total case stack visits + visit_decisions case stack (shape_visit x)
total_more case stack visits x =
    let f = visit_decisions case stack in
    let one : sum_by f (shape_visit x ∷ []) ≡ f (shape_visit x) =
    let nothing : f (shape_visit x) + 0 ≡ f (shape_visit x) = omega arith in sum_by-cons f (shape_visit x) [] ∙
    nothing in
    ap (sum_by f) (map-append shape_visit visits (x ∷ [])) ∙
    sum_by-append f (map shape_visit visits) (shape_visit x ∷ [])
    ∙ ap (λ n. sum_by f (map shape_visit visits) + n) one

-- where the drawing goes on, the run has made d decisions
abbrev CountsIf : Case → Result Progress NoShape → List Decision → ℕ → Type 0
CountsIf case (Err reason) ds d = Unit {0}
CountsIf case (Ok p) ds d = Counts case ds d

abbrev GoesOn : Result Progress NoShape → Type 0
GoesOn (Err reason) = ⊥
GoesOn (Ok p) = Unit {0}

counts_if : (case : Case) (x : Result Progress NoShape) (ds : List Decision) (d : ℕ) → (GoesOn x → Counts case ds d) →
    CountsIf case x ds d
counts_if case (Err reason) ds d h = tt
counts_if case (Ok p) ds d h = h tt

abbrev drawn_next : Case → List LayerTree → List (Task (Marked DrawnEvent)) → Log (Result Progress NoShape) DrawnEvent →
    DrawnLine
drawn_next case stack tasks log = next_of (length stack) (marking_player (shaper case stack)) tasks log

abbrev run_next : List LayerTree → List (Task (Marked Event)) → Log Work Event → RunLine
run_next stack tasks log = next_of (length stack) (marking_player (layers stack)) tasks log

-- what a turn adds to the decisions of a run, and to those of a drawing
abbrev visit_decided : List LayerTree → Work → ℕ → Dir → Event → Bool → List Decision
visit_decided stack w at dir e b = if b then (step (at - 1) (layer_at stack at) (state_at w at) dir e).decided else []

abbrev turn_decided : List LayerTree → List (Task (Marked Event)) → Work → List Decision
turn_decided stack [] w = []
turn_decided stack (u ∷ us) w = visit_decided stack w u.at u.dir u.event.event (is_place (length stack) u.at)

abbrev logged : Task (Marked DrawnEvent) → Logged DrawnEvent
logged t = record { at = t.at; dir = t.dir; marked = t.event }

abbrev visit_counted : Case → List LayerTree → Task (Marked DrawnEvent) → Bool → ℕ
visit_counted case stack t b = if b then visit_decisions case stack (shape_visit (logged t)) else 0

abbrev turn_counted : Case → List LayerTree → List (Task (Marked DrawnEvent)) → ℕ
turn_counted case stack [] = 0
turn_counted case stack (t ∷ rest) = visit_counted case stack t (is_place (length stack) t.at)

-- a task taken: a visit or an output
abbrev turned : {W E : Type 0} → Player W E → Task E → List (Task E) → W → Bool → Line W E
turned play t rest w b = if b then taken_turn t.at rest (play.visit t.at t.dir t.event w)
    else record { world = play.output t.dir t.event w; tasks = rest }

decided_grows : (stack : List LayerTree) (us : List (Task (Marked Event))) (log : Log Work Event) →
    (run_next stack us log).world.world.decided ≡ log.world.decided ++ turn_decided stack us log.world
decided_grows stack [] log = sym (append-nil log.world.decided)
decided_grows stack (u ∷ us) log = go (is_place (length stack) u.at) where
  go : (b : Bool) → (turned (marking_player (layers stack)) u us log b).world.world.decided
      ≡ log.world.decided ++ visit_decided stack log.world u.at u.dir u.event.event b
  go true = refl
  go false = sym (append-nil log.world.decided)

visits_grow : (case : Case) (stack : List LayerTree) (zs : List (Task (Marked DrawnEvent)))
    (log : Log (Result Progress NoShape) DrawnEvent) →
    total case stack (drawn_next case stack zs log).world.visits ≡ total case stack log.visits + turn_counted case stack
    zs
visits_grow case stack [] log = let none : total case stack log.visits ≡ total case stack log.visits + 0 =
    omega arith in none
visits_grow case stack (t ∷ rest) log = go (is_place (length stack) t.at) where
  go : (b : Bool) → total case stack (turned (marking_player (shaper case stack)) t rest log b).world.visits
      ≡ total case stack log.visits + visit_counted case stack t b
  go true = total_more case stack log.visits (logged t)
  go false = let none : total case stack log.visits ≡ total case stack log.visits + 0 = omega arith in none

abbrev drawing : Progress → List (Logged DrawnEvent) → List (Logged DrawnEvent) →
    Log (Result Progress NoShape) DrawnEvent
drawing p visits outs = record { world = Ok p; visits = visits; outs = outs }

-- a turn that both take: where the drawing goes on, its visit has the decisions of the run's
visit_adds : (case : Case) (stack : List LayerTree) (t : Task (Marked DrawnEvent))
    (rest : List (Task (Marked DrawnEvent))) (p : Progress)
    (visits outs : List (Logged DrawnEvent)) (w : Work) (e : Event) → EventIs t.event.event e → (b : Bool) →
    GoesOn (turned (marking_player (shaper case stack)) t rest (drawing p visits outs) b).world.world →
    Counts case (visit_decided stack w t.at t.dir e b) (visit_counted case stack t b)
visit_adds case stack t rest p visits outs w e same false on = refl
visit_adds case stack t rest p visits outs w e same true on = looked (nat_lt p.visits visits_limit) on where
  d : DrawnEvent
  d = t.event.event

  drawn : (x : Result DrawnVisit NoShape) → GoesOn (drawn_turn p x).world → IsDrawn x
  drawn (Ok v) on = tt
  drawn (Err reason) on = absurd on

  looked : (c : Bool) →
      GoesOn (if c then drawn_turn p (drawn_visit case (t.at - 1) (layer_at stack t.at) t.dir d) else record
      { world = Err no_shape.long; sent = [] }).world →
      Counts case (step (t.at - 1) (layer_at stack t.at) (state_at w t.at) t.dir e).decided
      (visit_decisions case stack (shape_visit (logged t)))
  looked true on = visit_counts case (t.at - 1) (layer_at stack t.at) (state_at w t.at) t.dir e d same
      (drawn (drawn_visit case (t.at - 1) (layer_at stack t.at) t.dir d) on)
  looked false on = absurd on

turn_adds : (case : Case) (stack : List LayerTree) (zs : List (Task (Marked DrawnEvent)))
    (us : List (Task (Marked Event))) (p : Progress)
    (visits outs : List (Logged DrawnEvent)) (w : Work) → Pairwise TaskIs zs us →
    GoesOn (drawn_next case stack zs (drawing p visits outs)).world.world →
    Counts case (turn_decided stack us w) (turn_counted case stack zs)
turn_adds case stack [] [] p visits outs w same on = refl
turn_adds case stack (t ∷ rest) (u ∷ us) p visits outs w same on =
    let head = same.0 in
    subst {A = ℕ × Dir} (λ x. Counts case (visit_decided stack w x.0 x.1 u.event.event (is_place (length stack) x.0))
    (turn_counted case stack (t ∷ rest))) (λ i. (head.at i, head.dir i))
    (visit_adds case stack t rest p visits outs w u.event.event head.marked.event (is_place (length stack) t.at) on)
turn_adds case stack [] (u ∷ us) p visits outs w same on = absurd same
turn_adds case stack (t ∷ rest) [] p visits outs w same on = absurd same

-- a drawing that has failed doesn't go on
stays_failed : (case : Case) (stack : List LayerTree) (zs : List (Task (Marked DrawnEvent))) (reason : NoShape)
    (visits outs : List (Logged DrawnEvent)) →
    GoesOn (drawn_next case stack zs (record { world = Err reason; visits = visits; outs = outs })).world.world → ⊥
stays_failed case stack [] reason visits outs on = on
stays_failed case stack (t ∷ rest) reason visits outs on = go (is_place (length stack) t.at) on where
  go : (b : Bool) → GoesOn
      (turned (marking_player (shaper case stack)) t rest (record { world = Err reason; visits = visits; outs = outs })
      b).world.world → ⊥
  go true on = on
  go false on = on

-- one turn
next_counts : (case : Case) (stack : List LayerTree) (z : DrawnLine) (r : RunLine) → InStep case z.world.world z r →
    CountsIf case z.world.world r.world.world.decided (total case stack z.world.visits) →
    let y = drawn_next case stack z.tasks z.world in
    CountsIf case y.world.world (run_next stack r.tasks r.world).world.world.decided (total case stack y.world.visits)
next_counts case stack z r = go z.world.world where
  log : Result Progress NoShape → Log (Result Progress NoShape) DrawnEvent
  log x = record { world = x; visits = z.world.visits; outs = z.world.outs }

  go : (x : Result Progress NoShape) →
      InStep case x (record {
        world = record { world = x; visits = z.world.visits; outs = z.world.outs };
        tasks =
            z.tasks;
      }) r →
      CountsIf case x r.world.world.decided (total case stack z.world.visits) →
      let y = drawn_next case stack z.tasks (record { world = x; visits = z.world.visits; outs = z.world.outs }) in
      CountsIf case y.world.world (run_next stack r.tasks r.world).world.world.decided (total case stack y.world.visits)
  go (Err reason) alike h =
      let y = drawn_next case stack z.tasks
      (record { world = Err reason; visits = z.world.visits; outs = z.world.outs }) in
      counts_if case y.world.world _ _
      (λ on. absurd (stays_failed case stack z.tasks reason z.world.visits z.world.outs on))
  go (Ok p) alike h =
      let y = drawn_next case stack z.tasks (drawing p z.world.visits z.world.outs) in
      counts_if case y.world.world _ _ (λ on.
      subst {A = List Decision × ℕ} (λ x. Counts case x.0 x.1)
      (λ i. (
        sym (decided_grows stack r.tasks r.world) i,
        sym (visits_grow case stack z.tasks (drawing p z.world.visits z.world.outs)) i,
      ))
      (counts_both case r.world.world.decided (turn_decided stack r.tasks r.world.world)
      (total case stack z.world.visits)
      (turn_counted case stack z.tasks) h
      (λ all. turn_adds case stack z.tasks r.tasks p z.world.visits z.world.outs r.world.world (alike all).tasks on)))

-- any number of turns
abbrev CountsLine : Case → List LayerTree → DrawnLine × RunLine → Type 0
CountsLine case stack x = CountsIf case x.0.world.world x.1.world.world.decided (total case stack x.0.world.visits)

runs_count : (case : Case) (stack : List LayerTree) (k : ℕ) (z : DrawnLine) (r : RunLine) →
    InStep case z.world.world z r → BareRun case stack r →
    CountsLine case stack (z, r) →
    CountsLine case stack (
      run_for (length stack) (marking_player (shaper case stack)) k z,
      run_for (length stack) (marking_player (layers stack)) k r,
    )
runs_count case stack zero z r step bare h = h
runs_count case stack (suc k) z r step bare h =
    let shapes = λ (j : ℕ). first_turn (length stack) (marking_player (shaper case stack)) j z.tasks z.world in
    let runs = λ (j : ℕ). first_turn (length stack) (marking_player (layers stack)) j r.tasks r.world in
    let next : InStep case (drawn_next case stack z.tasks z.world).world.world (drawn_next case stack z.tasks z.world)
    (run_next stack r.tasks r.world) =
    subst {A = DrawnLine × RunLine} (λ x. InStep case x.0.world.world x.0 x.1) (λ i. (shapes zero i, runs zero i))
    (runs_in_step case stack (suc zero) z r step bare) in
    subst {A = DrawnLine × RunLine} (CountsLine case stack) (λ i. (sym (shapes k) i, sym (runs k) i))
    (runs_count case stack k (drawn_next case stack z.tasks z.world) (run_next stack r.tasks r.world) next
    (λ j. subst (λ q. BareNext case stack q.world.world q.tasks) (runs j) (bare (suc j)))
    (next_counts case stack z r step h))

-- shapes

was_drawn : (stack : List LayerTree) (k : Known) (case : Case) (s : Shape) → shape stack k case ≡ Ok s →
    drawn_shape stack k case ≡ Ok s
was_drawn stack k First s made = made
was_drawn stack k Second s made = go (has_second_case stack k) made where
  go : (b : Bool) → (if b then drawn_shape stack k Second else Err no_shape.same) ≡ Ok s → drawn_shape stack k Second ≡
      Ok s
  go true made = made
  go false made = absurd (cc made)

shape_counts : (case : Case) (stack : List LayerTree) (log : Log (Result Progress NoShape) DrawnEvent) (s : Shape)
    (ds : List Decision) →
    shape_of log ≡ Ok s → CountsIf case log.world ds (total case stack log.visits) →
    Counts case ds (shape_decisions case stack s)
shape_counts case stack log s ds made h = go log.world made h where
  go : (x : Result Progress NoShape) → drawn_from (λ p. Ok (shape_with log p)) x ≡ Ok s →
      CountsIf case x ds (total case stack log.visits) →
      Counts case ds (shape_decisions case stack s)
  go (Err reason) made h = absurd (cc made)
  go (Ok p) made h =
      let same : shape_with log p ≡ s = cc made in
      subst (λ (t : Shape). Counts case ds (shape_decisions case stack t)) same h

counts_after : (case : Case) (most : ℕ) (stack : List LayerTree) (k : Known) (s : Shape) (states : List State)
    (task : Task Event) →
    shape_of (run_for (length stack) (marking_player (shaper case stack)) most
    (marked_start undrawn (entry_task stack k))).world ≡ Ok s →
    BeginsAs (entry_task stack k) task → BareRun case stack (run_start states task) →
    Counts case (run most stack states task).world.decided (shape_decisions case stack s)
counts_after case most stack k s states task made begins bare =
    let z : DrawnLine = marked_start undrawn (entry_task stack k) in
    let r : RunLine = run_start states task in
    subst (λ (w : Work). Counts case w.decided (shape_decisions case stack s))
    (logs_tell_runs stack states task most).world
    (shape_counts case stack (run_for (length stack) (marking_player (shaper case stack)) most z).world s _ made
    (runs_count case stack most z r (λ usual. record {
      tasks = (
        record { at = begins.at; dir = begins.dir; marked = record { event = begins.event; made_by = refl } },
        tt,
      );
      visits = tt;
      outs = tt;
    }) bare refl))

drawn_counts : (case : Case) (stack : List LayerTree) (k : Known) (s : Shape) (states : List State)
    (task : Task Event) →
    drawn_shape stack k case ≡ Ok s → BeginsAs (entry_task stack k) task → BareRun case stack (run_start states task) →
    Counts case (run weight_limit stack states task).world.decided (shape_decisions case stack s)
unfolding drawn_shape
drawn_counts case stack k s states task = counts_after case weight_limit stack k s states task

-- a packet begins as the entry of a plan that it fits

none_known : (n : ℕ) (fields : List ℕ) → length fields ≡ n → Pairwise IsKnownAs (replicate n None) fields
none_known zero [] is = tt
none_known zero (v ∷ fields) is = absurd (omega (arith, is))
none_known (suc n) [] is = absurd (omega (arith, is))
none_known (suc n) (v ∷ fields) is = (tt, none_known n fields (omega (arith, is)))

headers_begin : (layers : List LayerTree) (place : ℕ) (headers : List Header) → IsChain layers place headers →
    HeadersAre (entry_headers layers (map (λ h. h.tag) headers)) headers
headers_begin [] place [] h = tt
headers_begin [] place (header ∷ headers) h = absurd (cc h)
headers_begin (layer ∷ above) place [] h = absurd h
headers_begin (layer ∷ above) place (header ∷ headers) h = there (header_of_tag layer header.tag) _ h (λ d is chain. (
  record {
    tag = refl;
    fields = subst (λ n. Pairwise IsKnownAs (replicate n None) header.fields)
        (sym (ap (λ o. option_map_or (λ x. x.fields) o 0) is))
        (none_known d.fields header.fields chain.1);
  },
  ends d.ends chain.2 (headers_begin above (suc place) headers),
))
  where
    ends : (b : Bool) → MatchBool b (headers ≡ []) (IsChain above (suc place) headers) →
        (IsChain above (suc place) headers → HeadersAre (entry_headers above (map (λ h. h.tag) headers)) headers) →
        HeadersAre (entry_headers above (map (λ h. h.tag) headers)) headers
    ends true none rest = subst (λ hs. HeadersAre (entry_headers above (map (λ h. h.tag) hs)) hs) (sym none) tt
    ends false chain rest = rest chain

and_three : (x y z : Bool) → (x && y && z) ≡ true → (x ≡ true) × (y ≡ true)
and_three true true z e = (refl, refl)
and_three true false z e = absurd (cc e)
and_three false y z e = absurd (cc e)

packet_begins : (stack : List LayerTree) (me : ℕ) (p : Packet) (plan : Plan) → fits plan p ≡ true →
    IsChain stack 0 p.message.headers →
    BeginsAs (entry_task stack (plan_entry plan)) (first_task stack me (from_peer p))
packet_begins stack me p plan fit chain =
    let parts = and_three (sameb kind_row.the_type plan.kind (kind_of p.dest)) (bytes_eq plan.tags (tags_of p.message))
    (agree plan.fields (fields_of p.message)) fit in
    let tags = (bytes_eq-Decides plan.tags (tags_of p.message)).0 parts.1 in
    record {
      at = refl;
      dir = refl;
      event = go p.dest (same_true kind_row.the_type tt plan.kind (kind_of p.dest) parts.0)
          (subst (λ ts. HeadersAre (entry_headers stack ts) p.message.headers) (sym tags)
          (headers_begin stack 0 p.message.headers chain));
    }
  where
    go : (to : Dest) → plan.kind ≡ kind_of to → HeadersAre (entry_headers stack plan.tags) p.message.headers →
        EventIs (record { kind = plan.kind; headers = Some (entry_headers stack plan.tags) })
        (from_below (kind_of to) (p.sender ∷ []) (Some p.message)).event
    go dest.All kind headers = record { kind = kind; message = headers }
    go (dest.Rank rank) kind headers = record { kind = kind; message = headers }

-- a step with an entry begins as it

some_same : {A : Type 0} (x y : A) → Some x ≡ Some y → x ≡ y
some_same x y e = cc e

found : (plans : List Plan) (p : Packet) (k : ℕ) (plan : Plan) → least_fit plans p ≡ Some k →
    slice_get plans k ≡ Some plan → fits plan p ≡ true
found plans p k plan least at =
    let is = position-Some (λ plan. fits plan p) plans k plan least in
    let same : slice_index_or plans k plan ≡ plan = get_same plans k plan at in
    subst (λ q. fits q p ≡ true) same is.1
  where
    get_same : (qs : List Plan) (i : ℕ) (q : Plan) → slice_get qs i ≡ Some q → slice_index_or qs i q ≡ q
    get_same [] i q e = absurd (cc e)
    get_same (x ∷ qs) zero q e = some_same x q e
    get_same (x ∷ qs) (suc i) q e = get_same qs i q e

packet_entry_begins : (stack : List LayerTree) (me : ℕ) (p : Packet) (known : Known) →
    IsChain stack 0 p.message.headers →
    entry_of (plans_of stack) (from_peer p) ≡ Some known →
    BeginsAs (entry_task stack known) (first_task stack me (from_peer p))
packet_entry_begins stack me p known chain is = fitted (least_fit (plans_of stack) p) refl is where
  planned : (k : ℕ) → least_fit (plans_of stack) p ≡ Some k → (o : Option Plan) → slice_get (plans_of stack) k ≡ o →
      option_map plan_entry o ≡ Some known →
      BeginsAs (entry_task stack known) (first_task stack me (from_peer p))
  planned k least None at is = absurd (cc is)
  planned k least (Some plan) at is = subst (λ x. BeginsAs (entry_task stack x) (first_task stack me (from_peer p)))
      (some_same (plan_entry plan) known is)
      (packet_begins stack me p plan (found (plans_of stack) p k plan least at) chain)

  fitted : (o : Option ℕ) → least_fit (plans_of stack) p ≡ o →
      option_and_then (λ k. option_map plan_entry (slice_get (plans_of stack) k)) o ≡ Some known →
      BeginsAs (entry_task stack known) (first_task stack me (from_peer p))
  fitted None least is = absurd (cc is)
  fitted (Some k) least is = planned k least (slice_get (plans_of stack) k) refl is

entry_begins : (stack : List LayerTree) (here : Here) (states : List State) (what : Entered) (known : Known) →
    IsStep stack here states what →
    entry_of (plans_of stack) what ≡ Some known → BeginsAs (entry_task stack known) (first_task stack here.rank what)
entry_begins stack here states (app_cast body) known h is =
    subst (λ x. BeginsAs (entry_task stack x) (first_task stack here.rank (app_cast body)))
    (some_same entry.app_cast known is)
    (record { at = refl; dir = refl; event = record { kind = refl; message = tt } })
entry_begins stack here states (app_send to body) known h is =
    subst (λ x. BeginsAs (entry_task stack x) (first_task stack here.rank (app_send to body)))
    (some_same entry.app_send known is)
    (record { at = refl; dir = refl; event = record { kind = refl; message = tt } })
entry_begins stack here states app_leave known h is = absurd (cc is)
entry_begins stack here states (clock_tick moment) known h is = absurd (cc is)
entry_begins stack here states (from_peer p) known h is =
    packet_entry_begins stack here.rank p known h.input.chained.chain is

step_counts : (case : Case) (stack : List LayerTree) (here : Here) (id : ℕ) (states : List State) (what : Entered)
    (known : Known) (s : Shape) →
    IsStep stack here states what → entry_of (plans_of stack) what ≡ Some known → shape stack known case ≡ Ok s →
    Counts case (step_from stack here id states what).work.decided (shape_decisions case stack s)
step_counts case stack here id states what known s h is made =
    let task = first_task stack here.rank what in
    drawn_counts case stack known s states task (was_drawn stack known case s made)
    (entry_begins stack here states what known h is)
    (typed_runs_are_bare case stack states task h.typed h.states_are (first_is_chained stack here states what h))

pub missed_is_on_the_way : MissedIsOnTheWay
missed_is_on_the_way case stack here id states what known s h is made n missed =
    counts_missed case (step_from stack here id states what).work.decided (shape_decisions case stack s) n
    (step_counts case stack here id states what known s h is made) missed

pub predicted_decide_all : PredictedDecideAll
predicted_decide_all case stack here id states what known s h is made all =
    counts_all case (step_from stack here id states what).work.decided (shape_decisions case stack s)
    (step_counts case stack here id states what known s h is made) all
