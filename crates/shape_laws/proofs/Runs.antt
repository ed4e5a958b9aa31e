-- A predicted run and its shape are two queues in step.
use Rattle.std.proofs.Common.{◌≡◌, ℕ, zero, suc, ◌-◌, Bool, true, false, List, [], ◌∷◌, ◌++◌, map, Option, Some, refl}
use Rattle.std.proofs.Common.{sym, ap, subst}
use Rattle.std.specs.Prelude.{if◌then◌else◌, nat_lt, length, Result, Ok, Err}
use Rattle.std.specs.List.{enumerate_from}
use Rattle.layer_mean.specs.Effect.{all_as}
use Rattle.layer_words.specs.declared.events.Dir.{Dir}
use Rattle.layer_mean.specs.declared.run.Case.{Case}
use Rattle.layer_mean.specs.declared.run.Event.{Event}
use Rattle.layer_mean.specs.Tree.{LayerTree}
use Rattle.layer_mean.specs.Visit.{Visited, step}
use Rattle.layer_mean.specs.Queue.{Task, Turn, Player, Line, beyond, tasks_of, is_place, next_of, run_for, Work}
use Rattle.layer_mean.specs.Queue.{layer_at, state_at, visit_turn, layers}
use Rattle.layer_mean.specs.Marked.{Source, Marked, Logged, Log, marked_sent, marking_player}
use Rattle.stack_mean.specs.NoShape.{NoShape}
use Rattle.stack_mean.specs.NoShape as no_shape
use Rattle.stack_mean.specs.Drawn.{DrawnEvent, DrawnVisit, drawn_visit}
use Rattle.stack_mean.specs.Shape.{Progress, visits_limit, drawn_turn, shaper}
use Rattle.shape_laws.specs.Bare.{BareVisit, BareNext, BareRun}
use Rattle.shape_laws.specs.Known.{Pairwise, EventIs, TaskIs, LoggedIs}
use Rattle.shape_laws.proofs.Predicted.{AllAs, usual_parts}
use Rattle.shape_laws.proofs.Draws.{SentIs, pairs_append}
use Rattle.shape_laws.proofs.Visits.{VisitDrawn, visit_same}

abbrev pub DrawnLine : Type 0
DrawnLine = Line (Log (Result Progress NoShape) DrawnEvent) (Marked DrawnEvent)

abbrev pub RunLine : Type 0
RunLine = Line (Log Work Event) (Marked Event)

-- both have the same tasks, visits and outputs, as far as they are drawn
pub record Alike (z : DrawnLine) (r : RunLine) : Type 0 where
  pub tasks : Pairwise TaskIs z.tasks r.tasks
  pub visits : Pairwise LoggedIs z.world.visits r.world.visits
  pub outs : Pairwise LoggedIs z.world.outs r.world.outs

-- they do while all can be drawn and goes as predicted
abbrev pub InStep : Case → Result Progress NoShape → DrawnLine → RunLine → Type 0
InStep case (Err reason) z r = Unit {0}
InStep case (Ok p) z r = AllAs case r.world.world.decided → Alike z r

-- the tasks of what a visit sends
sent_from : (at visit : ℕ) (xs : List (Dir × DrawnEvent)) (ys : List (Dir × Event)) (n : ℕ) → Pairwise SentIs xs ys →
    Pairwise TaskIs
    (tasks_of at (map (λ x.
    (x.1.0, record { event = x.1.1; made_by = Some (record { visit = visit; emission = x.0 }) }))
    (enumerate_from n xs)))
    (tasks_of at (map (λ x.
    (x.1.0, record { event = x.1.1; made_by = Some (record { visit = visit; emission = x.0 }) }))
    (enumerate_from n ys)))
sent_from at visit [] [] n h = tt
sent_from at visit (x ∷ xs) (y ∷ ys) n h = (
  record { at = ap (λ d. beyond d at) h.0.0; dir = h.0.0; marked = record { event = h.0.1; made_by = refl } },
  sent_from at visit xs ys _ h.1,
)
sent_from at visit [] (y ∷ ys) n h = absurd h
sent_from at visit (x ∷ xs) [] n h = absurd h

-- a line after a visit, and after an output
abbrev after_visit : {W E : Type 0} → ℕ → Dir → Marked E → List (Task (Marked E)) → List (Logged E) → List (Logged E) →
    Turn W E → Line (Log W E) (Marked E)
after_visit at dir e rest visits outs turn = record {
  world = record { world = turn.world; visits = visits ++ record { at = at; dir = dir; marked = e } ∷ []; outs = outs };
  tasks = rest ++ tasks_of at (marked_sent (length visits) turn.sent);
}

abbrev marking : {E : Type 0} → E → Option Source → Marked E
marking e maker = record { event = e; made_by = maker }

same_length : (vs : List (Logged DrawnEvent)) (ws : List (Logged Event)) → Pairwise LoggedIs vs ws →
    length vs ≡ length ws
same_length [] [] h = refl
same_length (v ∷ vs) (w ∷ ws) h = ap suc (same_length vs ws h.1)
same_length [] (w ∷ ws) h = absurd h
same_length (v ∷ vs) [] h = absurd h

module _ (case : Case) (at : ℕ) (dir : Dir) (maker : Option Source) (d : DrawnEvent) (e : Event) (same : EventIs d e)
    (p : Progress) (w : Work) (z : DrawnLine) (r : RunLine) where
  log_same : LoggedIs (record { at = at; dir = dir; marked = marking d maker })
      (record { at = at; dir = dir; marked = marking e maker })
  log_same = record { at = refl; dir = refl; marked = record { event = same; made_by = refl } }

  visit_alike : (dv : DrawnVisit) (v : Visited) → Alike z r → Pairwise SentIs dv.sent v.sent →
      Alike (after_visit at dir (marking d maker) z.tasks z.world.visits z.world.outs (drawn_turn p (Ok dv)))
      (after_visit at dir (marking e maker) r.tasks r.world.visits r.world.outs (visit_turn at w v))
  visit_alike dv v alike sent = record {
    tasks = pairs_append TaskIs z.tasks _ r.tasks _ alike.tasks following;
    visits = pairs_append LoggedIs z.world.visits _ r.world.visits _ alike.visits (log_same, tt);
    outs = alike.outs;
  } where
    following : Pairwise TaskIs (tasks_of at (marked_sent (length z.world.visits) dv.sent))
        (tasks_of at (marked_sent (length r.world.visits) v.sent))
    following = subst (λ n. Pairwise TaskIs (tasks_of at (marked_sent (length z.world.visits) dv.sent))
        (tasks_of at (marked_sent n v.sent)))
        (same_length z.world.visits r.world.visits alike.visits)
        (sent_from at (length z.world.visits) dv.sent v.sent 0 sent)

  -- a visit keeps them in step
  visit_in_step : (x : Result DrawnVisit NoShape) (v : Visited) → (AllAs case w.decided → Alike z r) →
      (AllAs case v.decided → VisitDrawn x v.sent) →
      InStep case (drawn_turn p x).world
      (after_visit at dir (marking d maker) z.tasks z.world.visits z.world.outs (drawn_turn p x))
      (after_visit at dir (marking e maker) r.tasks r.world.visits r.world.outs (visit_turn at w v))
  visit_in_step (Err reason) v alike sent = tt
  visit_in_step (Ok dv) v alike sent = λ usual.
      let parts = usual_parts case w.decided v.decided usual in visit_alike dv v (alike parts.0) (sent parts.1)

abbrev DrawnLog : Type 0
DrawnLog = Log (Result Progress NoShape) DrawnEvent

abbrev RunLog : Type 0
RunLog = Log Work Event

abbrev drawing : Progress → List (Logged DrawnEvent) → List (Logged DrawnEvent) → DrawnLog
drawing p visits outs = record { world = Ok p; visits = visits; outs = outs }

abbrev drawn_next : Case → List LayerTree → List (Task (Marked DrawnEvent)) → DrawnLog → DrawnLine
drawn_next case stack tasks log = next_of (length stack) (marking_player (shaper case stack)) tasks log

abbrev run_next : List LayerTree → List (Task (Marked Event)) → RunLog → RunLine
run_next stack tasks log = next_of (length stack) (marking_player (layers stack)) tasks log

abbrev task_for : {E : Type 0} → E → (ℕ × Dir × Option Source) → Task (Marked E)
task_for e x = record { at = x.0; dir = x.1; event = marking e x.2 }

-- one turn keeps them in step
turn_in_step : (case : Case) (stack : List LayerTree) (at : ℕ) (dir : Dir) (maker : Option Source) (d : DrawnEvent)
    (e : Event) →
    EventIs d e → (p : Progress) (vs os : List (Logged DrawnEvent)) (rest : List (Task (Marked DrawnEvent)))
    (log : RunLog) (us : List (Task (Marked Event))) →
    (AllAs case log.world.decided →
    Alike (record { world = drawing p vs os; tasks = rest }) (record { world = log; tasks = us })) →
    (is_place (length stack) at ≡ true → BareVisit case (at - 1) (layer_at stack at) (state_at log.world at) dir e) →
    let z = drawn_next case stack (task_for d (at, dir, maker) ∷ rest) (drawing p vs os) in
    InStep case z.world.world z (run_next stack (task_for e (at, dir, maker) ∷ us) log)
turn_in_step case stack at dir maker d e same p vs os rest log us alike bare =
    go (is_place (length stack) at) refl where
      z : DrawnLine
      z = record { world = drawing p vs os; tasks = rest }

      r : RunLine
      r = record { world = log; tasks = us }

      v : Visited
      v = step (at - 1) (layer_at stack at) (state_at log.world at) dir e

      turned : Bool → Turn (Result Progress NoShape) DrawnEvent
      turned c = if c then drawn_turn p (drawn_visit case (at - 1) (layer_at stack at) dir d) else record
          { world = Err no_shape.long; sent = [] }

      looked : (c : Bool) → is_place (length stack) at ≡ true →
          InStep case (turned c).world (after_visit at dir (marking d maker) rest vs os (turned c))
          (after_visit at dir (marking e maker) us log.visits log.outs (visit_turn at log.world v))
      looked true placed = visit_in_step case at dir maker d e same p log.world z r
          (drawn_visit case (at - 1) (layer_at stack at) dir d) v alike
          (λ usual. visit_same case (at - 1) (layer_at stack at) (state_at log.world at) dir e d same (bare placed)
          usual)
      looked false placed = tt

      drawn_line : Bool → DrawnLine
      drawn_line b = if b then after_visit at dir (marking d maker) rest vs os (turned (nat_lt p.visits visits_limit))
          else record {
            world = (marking_player (shaper case stack)).output dir (marking d maker) (drawing p vs os);
            tasks =
                rest;
          }

      run_line : Bool → RunLine
      run_line b = if b then after_visit at dir (marking e maker) us log.visits log.outs (visit_turn at log.world v)
          else record { world = (marking_player (layers stack)).output dir (marking e maker) log; tasks = us }

      go : (b : Bool) → is_place (length stack) at ≡ b →
          InStep case (drawn_line b).world.world (drawn_line b) (run_line b)
      go true placed = looked (nat_lt p.visits visits_limit) placed
      go false placed = λ usual. let a = alike usual in record {
        tasks = a.tasks;
        visits = a.visits;
        outs = pairs_append LoggedIs os _ log.outs _ a.outs
            (record { at = refl; dir = refl; marked = record { event = same; made_by = refl } }, tt);
      }

-- what was decided before a turn is as predicted where all is after it
usual_before : (case : Case) (stack : List LayerTree) (us : List (Task (Marked Event))) (log : RunLog) →
    AllAs case (run_next stack us log).world.world.decided → AllAs case log.world.decided
usual_before case stack [] log h = h
usual_before case stack (u ∷ us) log h = go (is_place (length stack) u.at) h where
  v : Visited
  v = step (u.at - 1) (layer_at stack u.at) (state_at log.world u.at) u.dir u.event.event

  go : (b : Bool) →
      AllAs case (if b then after_visit u.at u.dir u.event us log.visits log.outs (visit_turn u.at log.world v)
      else record { world = (marking_player (layers stack)).output u.dir u.event log; tasks = us }).world.world.decided
      →
      AllAs case log.world.decided
  go true h = (usual_parts case log.world.decided v.decided h).0
  go false h = h

never : (case : Case) (x : Result Progress NoShape) (z : DrawnLine) (r : RunLine) →
    (AllAs case r.world.world.decided → ⊥) → InStep case x z r
never case (Err reason) z r h = tt
never case (Ok p) z r h = λ usual. absurd (h usual)

failed_next : (case : Case) (stack : List LayerTree) (zs : List (Task (Marked DrawnEvent))) (reason : NoShape)
    (vs os : List (Logged DrawnEvent))
    (r : RunLine) →
    let z = drawn_next case stack zs (record { world = Err reason; visits = vs; outs = os }) in
    InStep case z.world.world z r
failed_next case stack [] reason vs os r = tt
failed_next case stack (t ∷ rest) reason vs os r = go (is_place (length stack) t.at) where
  line : Bool → DrawnLine
  line b = if b then after_visit t.at t.dir t.event rest vs os (record { world = Err reason; sent = [] })
      else record {
        world =
            (marking_player (shaper case stack)).output t.dir t.event
            (record { world = Err reason; visits = vs; outs = os });
        tasks = rest;
      }

  go : (b : Bool) → InStep case (line b).world.world (line b) r
  go true = tt
  go false = tt

drawn_next_in_step : (case : Case) (stack : List LayerTree) (zs : List (Task (Marked DrawnEvent))) (p : Progress)
    (vs os : List (Logged DrawnEvent))
    (rs : List (Task (Marked Event))) (log : RunLog) →
    (AllAs case log.world.decided →
    Alike (record { world = drawing p vs os; tasks = zs }) (record { world = log; tasks = rs })) →
    BareNext case stack log.world rs →
    let z = drawn_next case stack zs (drawing p vs os) in InStep case z.world.world z (run_next stack rs log)
drawn_next_in_step case stack [] p vs os [] log alike bare = alike
drawn_next_in_step case stack [] p vs os (u ∷ us) log alike bare =
    λ usual. absurd (alike (usual_before case stack (u ∷ us) log usual)).tasks
drawn_next_in_step case stack (t ∷ rest) p vs os [] log alike bare = never case _ _ _ (λ usual. (alike usual).tasks)
drawn_next_in_step case stack (t ∷ rest) p vs os (u ∷ us) log alike bare = go (all_as case log.world.decided) refl where
  z : Task (Marked DrawnEvent) → DrawnLine
  z task = drawn_next case stack (task ∷ rest) (drawing p vs os)

  go : (b : Bool) → all_as case log.world.decided ≡ b →
      InStep case (z t).world.world (z t) (run_next stack (u ∷ us) log)
  go true usual =
      let a = alike usual in
      let head = a.tasks.0 in
      let key : ◌≡◌ {A = ℕ × Dir × Option Source} (t.at, t.dir, t.event.made_by) (u.at, u.dir, u.event.made_by) =
      λ i. (head.at i, head.dir i, head.marked.made_by i) in
      subst (λ x. InStep case (z (task_for t.event.event x)).world.world (z (task_for t.event.event x))
      (run_next stack (u ∷ us) log)) (sym key)
      (turn_in_step case stack u.at u.dir u.event.made_by t.event.event u.event.event head.marked.event p vs os rest log
      us
      (λ again. record { tasks = a.tasks.1; visits = a.visits; outs = a.outs }) bare)
  go false unusual = never case _ _ _ (λ usual. cc (usual_before case stack (u ∷ us) log usual, unusual))

-- one turn keeps them in step, whatever came before
next_in_step : (case : Case) (stack : List LayerTree) (z : DrawnLine) (r : RunLine) → InStep case z.world.world z r →
    BareNext case stack r.world.world r.tasks →
    let y = drawn_next case stack z.tasks z.world in InStep case y.world.world y (run_next stack r.tasks r.world)
next_in_step case stack z r h bare = go z.world.world h where
  go : (x : Result Progress NoShape) →
      InStep case x (record {
        world = record { world = x; visits = z.world.visits; outs = z.world.outs };
        tasks =
            z.tasks;
      }) r →
      let y = drawn_next case stack z.tasks (record { world = x; visits = z.world.visits; outs = z.world.outs }) in
      InStep case y.world.world y (run_next stack r.tasks r.world)
  go (Err reason) h = failed_next case stack z.tasks reason z.world.visits z.world.outs (run_next stack r.tasks r.world)
  go (Ok p) h = drawn_next_in_step case stack z.tasks p z.world.visits z.world.outs r.tasks r.world h bare

-- a run that is done stays as it is, and so the first turn of a run can be taken alone
stays : {W E : Type 0} (places : ℕ) (play : Player W E) (k : ℕ) (w : W) →
    run_for places play k (record { world = w; tasks = [] }) ≡ record { world = w; tasks = [] }
stays places play zero w = refl
stays places play (suc k) w = refl

pub first_turn : {W E : Type 0} (places : ℕ) (play : Player W E) (k : ℕ) (tasks : List (Task E)) (w : W) →
    run_for places play (suc k) (record { world = w; tasks = tasks }) ≡
    run_for places play k (next_of places play tasks w)
first_turn places play k [] w = sym (stays places play k w)
first_turn places play k (t ∷ rest) w = refl

pub runs_in_step : (case : Case) (stack : List LayerTree) (k : ℕ) (z : DrawnLine) (r : RunLine) →
    InStep case z.world.world z r → BareRun case stack r →
    let y = run_for (length stack) (marking_player (shaper case stack)) k z in
    InStep case y.world.world y (run_for (length stack) (marking_player (layers stack)) k r)
runs_in_step case stack zero z r h bare = h
runs_in_step case stack (suc k) z r h bare =
    let shapes = first_turn (length stack) (marking_player (shaper case stack)) k z.tasks z.world in
    let runs = λ (j : ℕ). first_turn (length stack) (marking_player (layers stack)) j r.tasks r.world in
    subst {A = DrawnLine × RunLine} (λ x. InStep case x.0.world.world x.0 x.1) (λ i. (sym shapes i, sym (runs k) i))
    (runs_in_step case stack k (drawn_next case stack z.tasks z.world) (run_next stack r.tasks r.world)
    (next_in_step case stack z r h (bare zero))
    (λ j. subst (λ q. BareNext case stack q.world.world q.tasks) (runs j) (bare (suc j))))
