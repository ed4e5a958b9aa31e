-- What is so of a trace in the making, turn by turn of its queue: the induction that all laws of its form share.
use Rattle.std.proofs.Common.{◌≡◌, ℕ, zero, suc, ◌+◌, ◌-◌, ◌≤◌, Bool, true, false, List, [], ◌∷◌, ◌++◌, length, Option}
use Rattle.std.proofs.Common.{refl, nat_lt, ltb-true, leb-true, arith}
use Rattle.std.specs.Prelude.{if◌then◌else◌, nat_le, Result, Ok, Err}
use Rattle.std.specs.List.{AllByRecursion}
use Rattle.std.proofs.lemmas.Bool.{and_parts}
use Rattle.layer_mean.specs.declared.run.Case.{Case}
use Rattle.layer_mean.specs.declared.run.Case.TheVariants.{First, Second}
use Rattle.layer_mean.specs.Tree.{LayerTree}
use Rattle.layer_mean.specs.Way.{Step}
use Rattle.layer_mean.specs.Queue.{Task, Line, is_done, tasks_of, is_place, taken_turn, next_of, run_for, starting}
use Rattle.layer_mean.specs.Queue.{layer_at}
use Rattle.stack_mean.specs.Acceptance.{weight_limit}
use Rattle.stack_mean.specs.NoShape.{NoShape, drawn_from}
use Rattle.stack_mean.specs.NoShape as no_shape
use Rattle.stack_mean.specs.Shape.{Known, visits_limit, has_second_case}
use Rattle.trace_mean.specs.Trace.{Operation}
use Rattle.trace_mean.specs.Fuse.{TracedEvent, Tracing, trace_step, trace_steps, nothing_made, TracedVisit}
use Rattle.trace_mean.specs.Fuse.{traced_visit, Fused, traced_turn, fused_visit, with_output, tracer, unfused}
use Rattle.trace_mean.specs.Fuse.{traced_task, fused, made_trace, trace_of}

-- what is so of what was made, and nothing where nothing was
abbrev pub IfMade : {A : Type 0} → (A → Type 0) → Result A NoShape → Type 0
IfMade P (Ok x) = P x
IfMade P (Err reason) = Unit {0}

pub from_made : {A B : Type 0} (P : A → Type 0) (Q : B → Type 0) (f : A → Result B NoShape) (r : Result A NoShape) →
    IfMade P r → ((x : A) → P x → IfMade Q (f x)) → IfMade Q (drawn_from f r)
from_made P Q f (Ok x) h so = so x h
from_made P Q f (Err reason) h so = tt

pub more_made : {A : Type 0} (P Q : A → Type 0) (r : Result A NoShape) → IfMade P r → ((x : A) → P x → Q x) → IfMade Q r
more_made P Q (Ok x) h so = so x h
more_made P Q (Err reason) h so = tt

pub both_made : {A : Type 0} (P Q R : A → Type 0) (r : Result A NoShape) → IfMade P r → IfMade Q r →
    ((x : A) → P x → Q x → R x) → IfMade R r
both_made P Q R (Ok x) h k so = so x h k
both_made P Q R (Err reason) h k so = tt

-- what each step keeps, steps in order keep
pub steps_keep : (P : Tracing → Type 0) (Q : Step → Type 0) (layer : LayerTree) (p : ℕ) →
    ((x : Step) (y : Tracing) → Q x → P y → IfMade P (trace_step layer p x y)) →
    (xs : List Step) (y : Tracing) → AllByRecursion Q xs → P y → IfMade P (trace_steps layer p xs y)
steps_keep P Q layer p step [] y q h = h
steps_keep P Q layer p step (x ∷ xs) y q h =
    from_made P P (trace_steps layer p xs) (trace_step layer p x y) (step x y q.0 h)
    (λ z k. steps_keep P Q layer p step xs z q.1 k)

-- where nothing is asked of the steps
abbrev pub AnyStep : Step → Type 0
AnyStep x = Unit {0}

pub any_steps : (xs : List Step) → AllByRecursion AnyStep xs
any_steps [] = tt
any_steps (x ∷ xs) = (tt, any_steps xs)

-- a place of a stack
pub placed : (places at : ℕ) → is_place places at ≡ true → (1 ≤ at) × (at ≤ places)
placed places at h = let parts = and_parts (nat_le 1 at) (nat_le at places) h in
    (leb-true 1 at parts.0, leb-true at places parts.1)

module _ (case : Case) (stack : List LayerTree) (So : ℕ → Fused → List (Task TracedEvent) → Type 0) where
  -- an output keeps what is so, and so does a visit, where it comes about
  abbrev pub OutputsKeep : Type 0
  OutputsKeep = (n : ℕ) (f : Fused) (t : Task TracedEvent) (rest : List (Task TracedEvent)) →
      is_place (length stack) t.at ≡ false →
      So n f (t ∷ rest) → So (suc n) (with_output t.dir t.event f) rest

  abbrev pub AfterVisit : ℕ → Fused → Task TracedEvent → List (Task TracedEvent) → TracedVisit → Type 0
  AfterVisit n f t rest v = So (suc n) (record { visits = f.visits + 1; made = v.made }) (rest ++ tasks_of t.at v.sent)

  abbrev pub VisitsKeep : Type 0
  VisitsKeep = (n : ℕ) (f : Fused) (t : Task TracedEvent) (rest : List (Task TracedEvent)) →
      is_place (length stack) t.at ≡ true →
      f.visits + 1 ≤ visits_limit → So n f (t ∷ rest) →
      IfMade (AfterVisit n f t rest) (traced_visit case (layer_at stack t.at) (t.at - 1) f.made t.dir t.event)

  -- what `limit` turns yield: what was made, with what is so of it; all of them were taken, unless no task is left
  pub record Comes (limit : ℕ) (operations : List Operation) : Type 0 where
    pub turns : ℕ
    pub world : Fused
    pub pending : List (Task TracedEvent)
    pub so : So turns world pending
    pub is : world.made.operations ≡ operations
    pub all : is_done pending ≡ false → turns ≡ limit

  module _ (outputs : OutputsKeep) (visits : VisitsKeep) where
    abbrev SoAt : ℕ → Result Fused NoShape → List (Task TracedEvent) → Type 0
    SoAt n (Ok f) pending = So n f pending
    SoAt n (Err reason) pending = Unit {0}

    turned : (n : ℕ) (f : Fused) (t : Task TracedEvent) (rest : List (Task TracedEvent))
        (v : Result TracedVisit NoShape) →
        IfMade (AfterVisit n f t rest) v → let r = taken_turn t.at rest (traced_turn f v) in
        SoAt (suc n) r.world r.tasks
    turned n f t rest (Ok v) h = h
    turned n f t rest (Err reason) h = tt

    turn : (n : ℕ) (t : Task TracedEvent) (rest : List (Task TracedEvent)) (w : Result Fused NoShape) →
        SoAt n w (t ∷ rest) →
        let r = next_of (length stack) (tracer case stack) (t ∷ rest) w in SoAt (suc n) r.world r.tasks
    turn n t rest (Err reason) h = go (is_place (length stack) t.at) where
      go : (b : Bool) → let r = if◌then◌else◌ {A = Line (Result Fused NoShape) TracedEvent} b
          (taken_turn t.at rest (fused_visit case stack t.at t.dir t.event (Err reason)))
          (record { world = Err reason; tasks = rest }) in
          SoAt (suc n) r.world r.tasks
      go true = tt
      go false = tt
    turn n t rest (Ok f) h = go (is_place (length stack) t.at) refl where
      go : (b : Bool) → is_place (length stack) t.at ≡ b →
          let r = if◌then◌else◌ {A = Line (Result Fused NoShape) TracedEvent} b
          (taken_turn t.at rest (fused_visit case stack t.at t.dir t.event (Ok f)))
          (record { world = Ok (with_output t.dir t.event f); tasks = rest }) in SoAt (suc n) r.world r.tasks
      go false place = outputs n f t rest place h
      go true place = room (nat_lt f.visits visits_limit) refl where
        room : (b : Bool) → nat_lt f.visits visits_limit ≡ b →
            let r = taken_turn t.at rest
            (if b then traced_turn f (traced_visit case (layer_at stack t.at) (t.at - 1) f.made t.dir t.event)
            else record { world = Err no_shape.long; sent = [] }) in SoAt (suc n) r.world r.tasks
        room false less = tt
        room true less = turned n f t rest (traced_visit case (layer_at stack t.at) (t.at - 1) f.made t.dir t.event)
            (visits n f t rest place (omega (arith, ltb-true f.visits visits_limit less)) h)

    record Ended (limit : ℕ) (f : Fused) (pending : List (Task TracedEvent)) : Type 0 where
      turns : ℕ
      so : So turns f pending
      all : is_done pending ≡ false → turns ≡ limit

    abbrev EndedAt : ℕ → Result Fused NoShape → List (Task TracedEvent) → Type 0
    EndedAt limit (Ok f) pending = Ended limit f pending
    EndedAt limit (Err reason) pending = Unit {0}

    stop : (n limit : ℕ) (tasks : List (Task TracedEvent)) (w : Result Fused NoShape) →
        (is_done tasks ≡ false → n ≡ limit) → SoAt n w tasks →
        EndedAt limit w tasks
    stop n limit tasks (Ok f) all h = record { turns = n; so = h; all = all }
    stop n limit tasks (Err reason) all h = tt

    run : (k n limit : ℕ) (tasks : List (Task TracedEvent)) (w : Result Fused NoShape) → n + k ≡ limit →
        SoAt n w tasks →
        let r = run_for (length stack) (tracer case stack) k (record { world = w; tasks = tasks }) in
        EndedAt limit r.world r.tasks
    run zero n limit tasks w is h = stop n limit tasks w (λ left. omega (arith, is)) h
    run (suc k) n limit [] w is h = stop n limit [] w (λ left. absurd (cc left)) h
    run (suc k) n limit (t ∷ rest) w is h =
        let r : Line (Result Fused NoShape) TracedEvent = next_of (length stack) (tracer case stack) (t ∷ rest) w in
        run k (suc n) limit r.tasks r.world (omega (arith, is)) (turn n t rest w h)

    made : (limit : ℕ) (r : Result Fused NoShape) (pending : List (Task TracedEvent)) (operations : List Operation) →
        EndedAt limit r pending →
        fused r ≡ Ok operations → Comes limit operations
    made limit (Ok f) pending operations h is =
        record { turns = h.turns; world = f; pending = pending; so = h.so; is = cc; all = h.all }
    made limit (Err reason) pending operations h is = absurd (cc is)

    made_after : (limit : ℕ) (k : Known) (fields : List (Option ℕ)) (operations : List Operation) →
        So 0 (record { visits = 0; made = nothing_made }) (traced_task stack k fields ∷ []) →
        fused (run_for (length stack) (tracer case stack) limit (starting unfused (traced_task stack k fields))).world ≡
        Ok operations →
        Comes limit operations
    made_after limit k fields operations h is =
        let r : Line (Result Fused NoShape) TracedEvent =
        run_for (length stack) (tracer case stack) limit (starting unfused (traced_task stack k fields)) in
        made limit r.world r.tasks operations
        (run limit 0 limit (traced_task stack k fields ∷ []) unfused (omega arith) h) is

    trace_comes : (k : Known) (fields : List (Option ℕ)) (operations : List Operation) →
        So 0 (record { visits = 0; made = nothing_made }) (traced_task stack k fields ∷ []) →
        made_trace stack k fields case ≡ Ok operations →
        Comes weight_limit operations
    unfolding made_trace
    trace_comes k fields operations h is = made_after weight_limit k fields operations h is

-- a trace of the second case is made as one of the first is
made_of : (case : Case) (stack : List LayerTree) (k : Known) (fields : List (Option ℕ)) (operations : List Operation) →
    trace_of case stack k fields ≡ Ok operations → made_trace stack k fields case ≡ Ok operations
made_of First stack k fields operations h = h
made_of Second stack k fields operations h = go (has_second_case stack k) h where
  go : (b : Bool) → (if b then made_trace stack k fields Second else Err no_shape.same) ≡ Ok operations →
      made_trace stack k fields Second ≡ Ok operations
  go true h = h
  go false h = absurd (cc h)

-- what is so before the first turn and is kept by each is so of the trace
pub traced : (case : Case) (stack : List LayerTree) (So : ℕ → Fused → List (Task TracedEvent) → Type 0) →
    OutputsKeep case stack So →
    VisitsKeep case stack So → (k : Known) (fields : List (Option ℕ)) (operations : List Operation) →
    So 0 (record { visits = 0; made = nothing_made }) (traced_task stack k fields ∷ []) → trace_of case stack k fields ≡
    Ok operations →
    Comes case stack So weight_limit operations
traced case stack So outputs visits k fields operations h is =
    trace_comes case stack So outputs visits k fields operations h (made_of case stack k fields operations is)
