-- A run and the making of its trace are two queues in step.
use Rattle.std.proofs.Common.{◌≡◌, ℕ, zero, suc, ◌-◌, ◌<◌, ◌≤◌, Bool, true, false, List, [], ◌∷◌, ◌++◌, map, length}
use Rattle.std.proofs.Common.{Option, Some, None, refl, sym, ap, ◌∙◌, subst, arith}
use Rattle.std.specs.Prelude.{if◌then◌else◌, ◌==◌, ◌&&◌, nat_lt, nat_le, Result, Ok, Err}
use Rattle.std.proofs.lemmas.List.{map-append}
use Rattle.std.proofs.lemmas.Bool.{leb-false}
use Rattle.layer_words.specs.declared.events.Dir.{Dir}
use Rattle.layer_words.specs.declared.events.Dir.TheVariants.{Up, Down}
use Rattle.layer_mean.specs.declared.run.Case.{Case}
use Rattle.layer_mean.specs.declared.run.Event.{Event}
use Rattle.layer_mean.specs.Tree.{HandlerTree, LayerTree}
use Rattle.layer_mean.specs.Effect.{Decision}
use Rattle.layer_mean.specs.Visit.{handler_for, Visited, step}
use Rattle.layer_mean.specs.Way.{Step, handler_way}
use Rattle.layer_mean.specs.Queue.{Task, Turn, Line, beyond, tasks_of, is_place, next_of, run_for, Work, layer_at}
use Rattle.layer_mean.specs.Queue.{state_at, visit_turn, layers}
use Rattle.stack_mean.specs.NoShape.{NoShape, drawn_from}
use Rattle.stack_mean.specs.NoShape as no_shape
use Rattle.stack_mean.specs.Shape.{visits_limit}
use Rattle.shape_laws.proofs.Runs.{first_turn}
use Rattle.trace_mean.specs.Trace.{Chained, output}
use Rattle.trace_mean.specs.Follow.{Trail, on, stopped_at}
use Rattle.trace_mean.specs.Scope.{Names}
use Rattle.trace_mean.specs.Fuse.{TracedEvent, Made, Tracing, TracedVisit, TracedMet, traced_met, traced_on}
use Rattle.trace_mean.specs.Fuse.{traced_unhandled, traced_entered, traced_way, traced_handled, traced_visit}
use Rattle.trace_mean.specs.Fuse.{trace_steps, Fused, traced_turn, with_output, tracer, event_at}
use Rattle.trace_laws.specs.Along.{AlongVisit}
use Rattle.trace_laws.specs.Fit.{FitStep, FitNext, FitRun}
use Rattle.trace_laws.specs.Members.{AreOf}
use Rattle.trace_laws.proofs.Walks.{Tally, all_of, missed_at, counting_on, tally, tally_both}
use Rattle.trace_laws.proofs.Later.{Later, later_self, later_on}
use Rattle.trace_laws.proofs.Members.{are_long, are_at, are_set, inside_place}
use Rattle.trace_laws.proofs.Steps.{Shown, shown_at, shown, sent_at, sent_shown}
use Rattle.packet_mean.specs.ChainedState.{IsFrom, IsEvent}
use Rattle.chain_laws.specs.Runs.{IsChainedTask, IsOnItsWay, task_place, edge_place}
use Rattle.trace_laws.proofs.Goes.{Start, Goes, goes_more, goes_stopped}
use Rattle.trace_laws.proofs.Ways.{Stopped, steps_stay}
use Rattle.trace_laws.proofs.Visits.{Worth, VisitClaim, Begun, visit_came}
use Rattle.trace_mean.specs.Worth.{Input, Kept}

abbrev pub TracedLine : Type 0
TracedLine = Line (Result Fused NoShape) TracedEvent

abbrev pub RunLine : Type 0
RunLine = Line Work Event

-- tasks, with their messages apart
abbrev pub task_shown_at : Input → Kept → Task TracedEvent → Task Shown
task_shown_at i u t = record { at = t.at; dir = t.dir; event = shown_at i u t.event }

abbrev pub task_shown : Task Event → Task Shown
task_shown t = record { at = t.at; dir = t.dir; event = shown t.event }

sent_tasks_at : (i : Input) (u : Kept) (at : ℕ) (xs : List (Dir × TracedEvent)) →
    map (task_shown_at i u) (tasks_of at xs) ≡ tasks_of at (map (sent_at i u) xs)
sent_tasks_at i u at [] = refl
sent_tasks_at i u at (x ∷ xs) = λ r. task_shown_at i u (record { at = beyond x.0 at; dir = x.0; event = x.1 }) ∷
    sent_tasks_at i u at xs r

sent_tasks : (at : ℕ) (xs : List (Dir × Event)) → map task_shown (tasks_of at xs) ≡ tasks_of at (map sent_shown xs)
sent_tasks at [] = refl
sent_tasks at (x ∷ xs) = λ r. task_shown (record { at = beyond x.0 at; dir = x.0; event = x.1 }) ∷ sent_tasks at xs r

-- a trail stands where a run does
pub record Both (i : Input) (f : Start) (z : Fused) (tasks : List (Task TracedEvent)) (r : RunLine) (n : ℕ) : Type 0
  where
    pub trail : Trail
    pub is_on : Goes f.stack i z.made.operations f.followed (on trail)
    pub states : trail.states ≡ r.world.states
    pub outs : trail.outs ≡ r.world.outs
    pub checks : trail.checks ≡ n
    pub are : AreOf i f.stack r.world.states
    pub binds : length trail.kept.numbers ≡ z.made.binds
    pub notes : length trail.kept.messages ≡ z.made.notes
    pub takes : length trail.kept.rows ≡ z.made.takes
    pub tasks_are : (u : Kept) → Later trail.kept u → map (task_shown_at i u) tasks ≡ map task_shown r.tasks

abbrev pub InStep : Input → Start → Result Fused NoShape → List (Task TracedEvent) → Tally → RunLine → Type 0
InStep i f (Err reason) tasks n r = Unit {0}
InStep i f (Ok z) tasks (missed_at n) r = Goes f.stack i z.made.operations f.followed (stopped_at n)
InStep i f (Ok z) tasks (all_of n) r = Both i f z tasks r n

-- what stopped stays so, visit by visit
abbrev VisitStopped : Input → Start → Result TracedVisit NoShape → ℕ → Type 0
VisitStopped i f (Err reason) n = Unit {0}
VisitStopped i f (Ok v) n = Goes f.stack i v.made.operations f.followed (stopped_at n)

module _ (i : Input) (f : Start) (n : ℕ) where
  unhandled_stays : (p : ℕ) (m : Made) (dir : Dir) (d : TracedEvent) (tag : ℕ) (c : Option Chained) →
      Goes f.stack i m.operations f.followed (stopped_at n) →
      VisitStopped i f (traced_unhandled p m dir d tag c) n
  unhandled_stays p m dir d tag None is = is
  unhandled_stays p m Down d tag (Some c) is = is
  unhandled_stays p m Up d tag (Some c) is = go (tag == 0) where
    go : (b : Bool) → VisitStopped i f (if b then Ok (traced_on m Up d (Some c)) else Err (no_shape.rare p)) n
    go true = is
    go false = tt

  way_stays : (layer : LayerTree) (p : ℕ) (m : Made) (w : Option (List Step)) (l : Names) →
      Goes f.stack i m.operations f.followed (stopped_at n) →
      VisitStopped i f (traced_way layer p m w l) n
  way_stays layer p m None l is = tt
  way_stays layer p m (Some steps) l is = go (trace_steps layer p steps y) (steps_stay i f layer p steps y n is) where
    y : Tracing
    y = record { made = m; names = l; sent = [] }

    go : (r : Result Tracing NoShape) → Stopped i f r n →
        VisitStopped i f (drawn_from (λ z. Ok (record { made = z.made; sent = z.sent })) r) n
    go (Err reason) is = tt
    go (Ok z) is = is

  handled_stays : (case : Case) (layer : LayerTree) (p : ℕ) (m : Made) (x : Option HandlerTree) (dir : Dir)
      (d : TracedEvent) (met : TracedMet) →
      Goes f.stack i m.operations f.followed (stopped_at n) →
      VisitStopped i f (traced_handled case layer p m x dir d met) n
  handled_stays case layer p m None dir d met is = unhandled_stays p m dir d met.tag met.message is
  handled_stays case layer p m (Some x) dir d met is = way_stays layer p m (handler_way case x) (traced_entered x d met)
      is

abbrev made_next : Case → List LayerTree → List (Task TracedEvent) → Result Fused NoShape → TracedLine
made_next case stack tasks w = next_of (length stack) (tracer case stack) tasks w

abbrev run_next : List LayerTree → List (Task Event) → Work → RunLine
run_next stack tasks w = next_of (length stack) (layers stack) tasks w

-- what was decided before a turn
missed_stays : (case : Case) (ds es : List Decision) (n : ℕ) → tally case ds 0 ≡ missed_at n →
    tally case (ds ++ es) 0 ≡ missed_at n
missed_stays case ds es n is = tally_both case ds es 0 ∙ ap (counting_on (tally case es)) is

-- after a check that was 0, and after a visit that can't be traced, nothing is claimed of the run
failed_next : (i : Input) (f : Start) (case : Case) (tasks : List (Task TracedEvent)) (reason : NoShape) (n : Tally)
    (r : RunLine) →
    let y = made_next case f.stack tasks (Err reason) in InStep i f y.world y.tasks n r
failed_next i f case [] reason n r = tt
failed_next i f case (t ∷ rest) reason n r = go (is_place (length f.stack) t.at) where
  line : Bool → TracedLine
  line b = if b then record { world = Err reason; tasks = rest ++ [] } else record { world = Err reason; tasks = rest }

  go : (b : Bool) → InStep i f (line b).world (line b).tasks n r
  go true = tt
  go false = tt

abbrev AllStopped : Input → Start → Result Fused NoShape → ℕ → Type 0
AllStopped i f (Err reason) n = Unit {0}
AllStopped i f (Ok z) n = Goes f.stack i z.made.operations f.followed (stopped_at n)

stopped_in_step : (i : Input) (f : Start) (w : Result Fused NoShape) (tasks : List (Task TracedEvent)) (n : ℕ)
    (r : RunLine) →
    AllStopped i f w n → InStep i f w tasks (missed_at n) r
stopped_in_step i f (Err reason) tasks n r is = tt
stopped_in_step i f (Ok z) tasks n r is = is

turn_stays : (i : Input) (f : Start) (z : Fused) (x : Result TracedVisit NoShape) (n : ℕ) → VisitStopped i f x n →
    AllStopped i f (traced_turn z x).world n
turn_stays i f z (Err reason) n is = tt
turn_stays i f z (Ok v) n is = is

line_stays : (i : Input) (f : Start) (case : Case) (tasks : List (Task TracedEvent)) (z : Fused) (n : ℕ) →
    Goes f.stack i z.made.operations f.followed (stopped_at n) →
    AllStopped i f (made_next case f.stack tasks (Ok z)).world n
line_stays i f case [] z n is = is
line_stays i f case (t ∷ rest) z n is = go (is_place (length f.stack) t.at) where
  looked : Bool → Turn (Result Fused NoShape) TracedEvent
  looked c = if c then traced_turn z (traced_visit case (layer_at f.stack t.at) (t.at - 1) z.made t.dir t.event) else
      record {
        world = Err no_shape.long;
        sent = [];
      }

  visit : (c : Bool) → AllStopped i f (looked c).world n
  visit true = turn_stays i f z (traced_visit case (layer_at f.stack t.at) (t.at - 1) z.made t.dir t.event) n
      (handled_stays i f n case (layer_at f.stack t.at) (t.at - 1) z.made
      (handler_for (layer_at f.stack t.at) t.dir t.event.kind (traced_met t.dir t.event.message).tag) t.dir t.event
      (traced_met t.dir t.event.message) is)
  visit false = tt

  line : Bool → TracedLine
  line b = if b then record {
    world = (looked (nat_lt z.visits visits_limit)).world;
    tasks = rest ++ tasks_of t.at
        (looked (nat_lt z.visits visits_limit)).sent;
  }
      else record { world = Ok (with_output t.dir t.event z); tasks = rest }

  go : (b : Bool) → AllStopped i f (line b).world n
  go true = visit (nat_lt z.visits visits_limit)
  go false = goes_more f.stack i z.made.operations (output t.dir t.event.kind t.event.numbers t.event.message ∷ [])
      f.followed (stopped_at n) (stopped_at n) is
      (goes_stopped f.stack i (output t.dir t.event.kind t.event.numbers t.event.message ∷ []) n)

-- what leaves the stack
other_false : (a b : Bool) → (a && b) ≡ false → a ≡ true → b ≡ false
other_false true b h is = h
other_false false b h is = absurd (cc is)

le_true : (m n : ℕ) (b : Bool) → nat_le m n ≡ b → m ≤ n → nat_le m n ≡ true
le_true m n true is h = is
le_true m n false is h = absurd (omega (arith, leb-false m n is, h))

past : (places at : ℕ) → is_place places at ≡ false → 1 ≤ at → places < at
past places at off first =
    leb-false at places (other_false (nat_le 1 at) (nat_le at places) off (le_true 1 at (nat_le 1 at) refl first))

outside : (stack : List LayerTree) (dir : Dir) (at : ℕ) (e : Event) → IsOnItsWay stack dir at →
    IsEvent (IsFrom stack (task_place dir at)) e →
    is_place (length stack) at ≡ false → IsEvent (IsFrom stack (edge_place stack dir)) e
outside stack Up at e way h off =
    let same : at - 1 ≡ length stack = omega (arith, past (length stack) at off way.0, way.1) in
    subst (λ p. IsEvent (IsFrom stack p) e) same h
outside stack Down zero e way h off = h
outside stack Down (suc at) e way h off = absurd (omega (arith, past (length stack) (suc at) off (omega arith), way))

-- one turn keeps them in step
turn_in_step : (i : Input) (f : Start) (case : Case) (at : ℕ) (dir : Dir) (d : TracedEvent) (e : Event)
    (z : Fused) (rest : List (Task TracedEvent)) (w : Work) (us : List (Task Event)) (n : ℕ) →
    tally case w.decided 0 ≡ all_of n →
    (both : Both i f z (record { at = at; dir = dir; event = d } ∷ rest)
    (record { world = w; tasks = record { at = at; dir = dir; event = e } ∷ us }) n) →
    Worth i both.trail.kept d e →
    ((u : Kept) → Later both.trail.kept u → map (task_shown_at i u) rest ≡ map task_shown us) →
    IsChainedTask f.stack (record { at = at; dir = dir; event = e }) × (is_place (length f.stack) at ≡ true →
    AlongVisit (FitStep f.stack (at - 1) (layer_at f.stack at)) case (at - 1) (layer_at f.stack at) (state_at w at) dir
    e) →
    let y = made_next case f.stack (record { at = at; dir = dir; event = d } ∷ rest) (Ok z) in
    let q = run_next f.stack (record { at = at; dir = dir; event = e } ∷ us) w in
    InStep i f y.world y.tasks (tally case q.world.decided 0) q
turn_in_step i f case at dir d e z rest w us n usual both worth tasks fit = go (is_place (length f.stack) at) refl where
  t : Trail
  t = both.trail

  p : ℕ
  p = at - 1

  v : Visited
  v = step p (layer_at f.stack at) (state_at w at) dir e

  looked : Bool → Turn (Result Fused NoShape) TracedEvent
  looked c = if c then traced_turn z (traced_visit case (layer_at f.stack at) p z.made dir d) else record
      { world = Err no_shape.long; sent = [] }

  run_line : Bool → RunLine
  run_line b = if b then record { world = (visit_turn at w v).world; tasks = us ++ tasks_of at v.sent }
      else record { world = record w { outs = w.outs ++ (dir, e) ∷ [] }; tasks = us }

  made_line : Bool → TracedLine
  made_line b = if b then record {
    world = (looked (nat_lt z.visits visits_limit)).world;
    tasks = rest ++ tasks_of at
        (looked (nat_lt z.visits visits_limit)).sent;
  }
      else record { world = Ok (with_output dir d z); tasks = rest }

  visit : is_place (length f.stack) at ≡ true → (c : Bool) →
      InStep i f (looked c).world (rest ++ tasks_of at (looked c).sent) (tally case (w.decided ++ v.decided) 0)
      (run_line true)
  visit placed true = subst
      (λ m. InStep i f (looked true).world (rest ++ tasks_of at (looked true).sent) m (run_line true)) sums
      (ended (traced_visit case (layer_at f.stack at) p z.made dir d) (tally case v.decided t.checks)
      (visit_came i f w.states case (layer_at f.stack at) p inside z.made t begun dir d e worth (fit.1 placed))) where
        inside : p < length w.states
        inside = subst (λ m. p < m) (are_long i f.stack w.states both.are) (inside_place (length f.stack) at placed)

        begun : Begun i f w.states p z.made t
        begun = record {
          is_on = both.is_on;
          states = both.states;
          of = are_at i f.stack w.states p both.are inside;
          binds = both.binds;
          notes = both.notes;
          takes = both.takes;
        }

        sums : tally case v.decided t.checks ≡ tally case (w.decided ++ v.decided) 0
        sums = ap (tally case v.decided) both.checks ∙
            sym (tally_both case w.decided v.decided 0 ∙ ap (counting_on (tally case v.decided)) usual)

        ended : (x : Result TracedVisit NoShape) (m : Tally) → VisitClaim i f w.states p t x m v.state v.sent →
            InStep i f (traced_turn z x).world (rest ++ tasks_of at (traced_turn z x).sent) m (run_line true)
        ended (Err reason) m claim = tt
        ended (Ok x) (missed_at m) claim = claim
        ended (Ok x) (all_of m) claim = record {
          trail = claim.trail;
          is_on = claim.is_on;
          states = claim.states;
          outs = claim.outs ∙ both.outs;
          checks = claim.checks;
          are = are_set i f.stack w.states p v.state both.are claim.of;
          binds = claim.binds;
          notes = claim.notes;
          takes = claim.takes;
          tasks_are = λ u later.
              map-append (task_shown_at i u) rest (tasks_of at x.sent)
              ∙ (λ r. tasks u (later_on t.kept claim.trail.kept u claim.later later) r
              ++ (sent_tasks_at i u at x.sent ∙ ap (tasks_of at) (claim.sent_are u later) ∙ sym (sent_tasks at v.sent))
              r)
              ∙ sym (map-append task_shown us (tasks_of at v.sent));
        }
  visit placed false = tt

  go : (b : Bool) → is_place (length f.stack) at ≡ b →
      InStep i f (made_line b).world (made_line b).tasks (tally case (run_line b).world.decided 0) (run_line b)
  go true placed = visit placed (nat_lt z.visits visits_limit)
  go false placed = subst (λ m. InStep i f (Ok (with_output dir d z)) rest m (run_line false)) (sym usual) (record {
    trail = record t { outs = t.outs ++ (dir, event_at i t.kept d) ∷ [] };
    is_on = goes_more f.stack i z.made.operations (output dir d.kind d.numbers d.message ∷ []) f.followed (on t)
        (on (record t { outs = t.outs ++ (dir, event_at i t.kept d) ∷ [] })) both.is_on (record {
          leads = refl;
          safe = (
            subst (IsEvent (IsFrom f.stack (edge_place f.stack dir)))
                (sym (ap (λ x. x.0) (worth t.kept (later_self t.kept))))
                (outside f.stack dir at e fit.0.way fit.0.event placed),
            tt,
          );
        });
    states = both.states;
    outs = λ r. both.outs r ++ (dir, (worth t.kept (later_self t.kept) r).0) ∷ [];
    checks = both.checks;
    are = both.are;
    binds = both.binds ∙ omega arith;
    notes = both.notes ∙ omega arith;
    takes = both.takes ∙ omega arith;
    tasks_are = tasks;
  })

-- a run that left the prediction
missed_next : (case : Case) (stack : List LayerTree) (us : List (Task Event)) (w : Work) (n : ℕ) →
    tally case w.decided 0 ≡ missed_at n →
    tally case (run_next stack us w).world.decided 0 ≡ missed_at n
missed_next case stack [] w n is = is
missed_next case stack (u ∷ us) w n is = go (is_place (length stack) u.at) where
  v : Visited
  v = step (u.at - 1) (layer_at stack u.at) (state_at w u.at) u.dir u.event

  line : Bool → RunLine
  line b = if b then record { world = (visit_turn u.at w v).world; tasks = us ++ tasks_of u.at v.sent }
      else record { world = record w { outs = w.outs ++ (u.dir, u.event) ∷ [] }; tasks = us }

  go : (b : Bool) → tally case (line b).world.decided 0 ≡ missed_at n
  go true = missed_stays case w.decided v.decided n is
  go false = is

pub cons_parts : {A : Type 0} (x y : A) (xs ys : List A) → x ∷ xs ≡ y ∷ ys → (x ≡ y) × (xs ≡ ys)
cons_parts x y xs ys is = (cc, cc)

-- the first tasks of both are the same
both_next : (i : Input) (f : Start) (case : Case) (z : Fused) (tasks : List (Task TracedEvent)) (us : List (Task Event))
    (w : Work) (n : ℕ) →
    tally case w.decided 0 ≡ all_of n → Both i f z tasks (record { world = w; tasks = us }) n →
    FitNext case f.stack w us →
    let y = made_next case f.stack tasks (Ok z) in
    let q = run_next f.stack us w in
    InStep i f y.world y.tasks (tally case q.world.decided 0) q
both_next i f case z [] [] w n usual both fit = subst (λ m. InStep i f (Ok z) [] m (record { world = w; tasks = [] }))
    (sym usual) both
both_next i f case z [] (u ∷ us) w n usual both fit =
    absurd (cc (both.tasks_are both.trail.kept (later_self both.trail.kept)))
both_next i f case z (t ∷ tasks) [] w n usual both fit =
    absurd (cc (both.tasks_are both.trail.kept (later_self both.trail.kept)))
both_next i f case z (t ∷ tasks) (u ∷ us) w n usual both fit =
    let parts = λ (k : Kept) (later : Later both.trail.kept k).
    cons_parts (task_shown_at i k t) (task_shown u) (map (task_shown_at i k) tasks)
    (map task_shown us) (both.tasks_are k later) in
    let head = (parts both.trail.kept (later_self both.trail.kept)).0 in
    let key : ◌≡◌ {A = ℕ × Dir} (t.at, t.dir) (u.at, u.dir) = λ r. ((head r).at, (head r).dir) in
    subst (λ x. let y = made_next case f.stack (record { at = x.0; dir = x.1; event = t.event } ∷ tasks) (Ok z) in
    let q = run_next f.stack (u ∷ us) w in InStep i f y.world y.tasks (tally case q.world.decided 0) q) (sym key)
    (turn_in_step i f case u.at u.dir t.event u.event z tasks w us n usual
    (record {
      trail = both.trail;
      is_on = both.is_on;
      states = both.states;
      outs = both.outs;
      checks = both.checks;
      are = both.are;
      binds = both.binds;
      notes = both.notes;
      takes = both.takes;
      tasks_are = λ k later. λ r. record { at = u.at; dir = u.dir; event = ((parts k later).0 r).event } ∷
          (parts k later).1 r;
    })
    (λ k later. ap (λ (x : Task Shown). x.event) (parts k later).0) (λ k later. (parts k later).1) fit)

-- the next turn keeps them in step, whatever came before
next_in_step : (i : Input) (f : Start) (case : Case) (z : TracedLine) (r : RunLine) →
    InStep i f z.world z.tasks (tally case r.world.decided 0) r → FitNext case f.stack r.world r.tasks →
    let y = made_next case f.stack z.tasks z.world in
    let q = run_next f.stack r.tasks r.world in
    InStep i f y.world y.tasks (tally case q.world.decided 0) q
next_in_step i f case z r h fit = go z.world h where
  go : (x : Result Fused NoShape) → InStep i f x z.tasks (tally case r.world.decided 0) r →
      let y = made_next case f.stack z.tasks x in
      let q = run_next f.stack r.tasks r.world in
      InStep i f y.world y.tasks (tally case q.world.decided 0) q
  go (Err reason) h = let q = run_next f.stack r.tasks r.world in
      failed_next i f case z.tasks reason (tally case q.world.decided 0) q
  go (Ok x) h = known (tally case r.world.decided 0) refl h where
    known : (m : Tally) → tally case r.world.decided 0 ≡ m → InStep i f (Ok x) z.tasks m r →
        let y = made_next case f.stack z.tasks (Ok x) in
        let q = run_next f.stack r.tasks r.world in
        InStep i f y.world y.tasks (tally case q.world.decided 0) q
    known (missed_at n) is h =
        let y = made_next case f.stack z.tasks (Ok x) in
        let q = run_next f.stack r.tasks r.world in
        subst (λ m. InStep i f y.world y.tasks m q) (sym (missed_next case f.stack r.tasks r.world n is))
        (stopped_in_step i f y.world y.tasks n q (line_stays i f case z.tasks x n h))
    known (all_of n) is h = both_next i f case x z.tasks r.tasks r.world n is h fit

pub runs_in_step : (i : Input) (f : Start) (case : Case) (k : ℕ) (z : TracedLine) (r : RunLine) →
    InStep i f z.world z.tasks (tally case r.world.decided 0) r → FitRun case f.stack r →
    let y = run_for (length f.stack) (tracer case f.stack) k z in
    let q = run_for (length f.stack) (layers f.stack) k r in
    InStep i f y.world y.tasks (tally case q.world.decided 0) q
runs_in_step i f case zero z r h fit = h
runs_in_step i f case (suc k) z r h fit =
    let made = first_turn (length f.stack) (tracer case f.stack) k z.tasks z.world in
    let runs = λ (j : ℕ). first_turn (length f.stack) (layers f.stack) j r.tasks r.world in
    subst {A = TracedLine × RunLine} (λ x. InStep i f x.0.world x.0.tasks (tally case x.1.world.decided 0) x.1)
    (λ t. (sym made t, sym (runs k) t))
    (runs_in_step i f case k (made_next case f.stack z.tasks z.world) (run_next f.stack r.tasks r.world)
    (next_in_step i f case z r h (fit zero))
    (λ j. subst (λ q. FitNext case f.stack q.world q.tasks) (runs j) (fit (suc j))))
