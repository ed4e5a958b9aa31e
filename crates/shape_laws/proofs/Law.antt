-- A predicted run has the shape of its entry.
use Rattle.std.proofs.Common.{◌≡◌, ℕ, Bool, true, false, List, [], ◌∷◌, map, Option, Some, None, refl, sym, ap, subst}
use Rattle.std.specs.Prelude.{◌-◌, if◌then◌else◌, length, Result, Ok, Err}
use Rattle.std.specs.Option.{option_map_or}
use Rattle.layer_mean.specs.declared.run.Case.{Case}
use Rattle.layer_mean.specs.declared.run.Case.TheVariants.{First, Second}
use Rattle.layer_mean.specs.declared.run.Event.{Event}
use Rattle.layer_mean.specs.Queue.{Task, run_for, run, layers, is_predicted}
use Rattle.layer_mean.specs.Marked.{Logged, marking_player, marked_start}
use Rattle.stack_mean.specs.Acceptance.{weight_limit}
use Rattle.stack_mean.specs.NoShape.{NoShape, drawn_from}
use Rattle.stack_mean.specs.NoShape as no_shape
use Rattle.stack_mean.specs.Drawn.{DrawnHeader, DrawnEvent}
use Rattle.stack_mean.specs.Shape.{Known, Progress, Shape, undrawn, first_tag, headers_of, shape_with, entry_task}
use Rattle.stack_mean.specs.Shape.{has_second_case, shaper, shape_visit, shape_out, shape_of, drawn_shape, shape}
use Rattle.shape_laws.specs.Bare.{BareRun}
use Rattle.shape_laws.specs.Known.{Pairwise, HeadersAre, MessageIs, LoggedIs, BeginsAs}
use Rattle.shape_laws.specs.Law.{headers_in, first_tag_in, run_start, marked_run, VisitIs, OutIs, HasShape}
use Rattle.shape_laws.specs.Law.{PredictedRunsHaveTheShape}
use Rattle.shape_laws.proofs.Predicted.{AllAs}
use Rattle.shape_laws.proofs.Marks.{logs_tell_runs}
use Rattle.shape_laws.proofs.Runs.{DrawnLine, RunLine, InStep, runs_in_step}
use Rattle.layer_mean.specs.Tree.{LayerTree}
use Rattle.layer_mean.specs.State.{State}
use Rattle.msg_core.specs.Chain.{Content}
use Rattle.msg_core.specs.declared.message.Header.{Header}

first_tag_same : (headers : List DrawnHeader) (hs : List Header) → HeadersAre headers hs →
    first_tag headers ≡ first_tag_in hs
first_tag_same [] [] e = refl
first_tag_same (h ∷ headers) (x ∷ hs) e = e.0.tag
first_tag_same [] (x ∷ hs) e = absurd e
first_tag_same (h ∷ headers) [] e = absurd e

headers_same : (headers : Option (List DrawnHeader)) (m : Option Content) → MessageIs headers m →
    HeadersAre (option_map_or (λ hs. hs) headers []) (option_map_or (λ c. c.headers) m [])
headers_same None None e = tt
headers_same (Some headers) (Some m) e = e
headers_same None (Some m) e = absurd e
headers_same (Some headers) None e = absurd e

-- what is told of logs that are alike
visits_told : (xs : List (Logged DrawnEvent)) (ys : List (Logged Event)) → Pairwise LoggedIs xs ys →
    Pairwise VisitIs (map shape_visit xs) ys
visits_told [] [] h = tt
visits_told (x ∷ xs) (y ∷ ys) h =
    let one = h.0 in
    let same = headers_same x.marked.event.headers y.marked.event.message one.marked.event.message in (
      record {
        place = ap (λ n. n - 1) one.at;
        dir = one.dir;
        kind = one.marked.event.kind;
        tag = first_tag_same (headers_of x.marked.event) (headers_in y.marked.event) same;
        made_by = one.marked.made_by;
      },
      visits_told xs ys h.1,
    )
visits_told [] (y ∷ ys) h = absurd h
visits_told (x ∷ xs) [] h = absurd h

outs_told : (xs : List (Logged DrawnEvent)) (ys : List (Logged Event)) → Pairwise LoggedIs xs ys →
    Pairwise OutIs (map shape_out xs) ys
outs_told [] [] h = tt
outs_told (x ∷ xs) (y ∷ ys) h = let one = h.0 in (
  record {
    dir = one.dir;
    kind = one.marked.event.kind;
    headers = headers_same x.marked.event.headers y.marked.event.message one.marked.event.message;
    made_by = one.marked.made_by;
  },
  outs_told xs ys h.1,
)
outs_told [] (y ∷ ys) h = absurd h
outs_told (x ∷ xs) [] h = absurd h

has_shape : (case : Case) (z : DrawnLine) (r : RunLine) (s : Shape) → shape_of z.world ≡ Ok s →
    InStep case z.world.world z r →
    AllAs case r.world.world.decided → HasShape s r.world
has_shape case z r s made step usual = go z.world.world made step where
  shape_at : Progress → Shape
  shape_at p = shape_with z.world p

  go : (x : Result Progress NoShape) → drawn_from (λ p. Ok (shape_at p)) x ≡ Ok s → InStep case x z r →
      HasShape s r.world
  go (Err reason) made step = absurd (cc made)
  go (Ok p) made step =
      let a = step usual in
      let same : shape_at p ≡ s = cc in
      subst (λ t. HasShape t r.world) same
      (record {
        visits = visits_told z.world.visits r.world.visits a.visits;
        outs =
            outs_told z.world.outs r.world.outs a.outs;
      })

-- the law after any number of turns
shape_after : (case : Case) (most : ℕ) (stack : List LayerTree) (k : Known) (s : Shape) (states : List State)
    (task : Task Event) →
    shape_of (run_for (length stack) (marking_player (shaper case stack)) most
    (marked_start undrawn (entry_task stack k))).world ≡ Ok s →
    BeginsAs (entry_task stack k) task →
    BareRun case stack (run_start states task) → is_predicted case (run most stack states task).world ≡ true →
    HasShape s (run_for (length stack) (marking_player (layers stack)) most (run_start states task)).world
shape_after case most stack k s states task made begins bare predicted =
    let z : DrawnLine = marked_start undrawn (entry_task stack k) in
    let r : RunLine = run_start states task in
    has_shape case (run_for (length stack) (marking_player (shaper case stack)) most z)
    (run_for (length stack) (marking_player (layers stack)) most r) s made
    (runs_in_step case stack most z r (λ usual. record {
      tasks = (
        record { at = begins.at; dir = begins.dir; marked = record { event = begins.event; made_by = refl } },
        tt,
      );
      visits = tt;
      outs = tt;
    }) bare)
    (subst (λ w. AllAs case w.decided) (sym (logs_tell_runs stack states task most).world) predicted)

drawn_runs_have_the_shape : (case : Case) (stack : List LayerTree) (k : Known) (s : Shape) (states : List State)
    (task : Task Event) →
    drawn_shape stack k case ≡ Ok s →
    BeginsAs (entry_task stack k) task →
    BareRun case stack (run_start states task) → is_predicted case (run weight_limit stack states task).world ≡ true →
    HasShape s (marked_run stack states task).world
unfolding drawn_shape
drawn_runs_have_the_shape case stack k s states task = shape_after case weight_limit stack k s states task

-- what has a shape was drawn
was_drawn : (stack : List LayerTree) (k : Known) (case : Case) (s : Shape) → shape stack k case ≡ Ok s →
    drawn_shape stack k case ≡ Ok s
was_drawn stack k First s made = made
was_drawn stack k Second s made = go (has_second_case stack k) made where
  go : (b : Bool) → (if b then drawn_shape stack k Second else Err no_shape.same) ≡ Ok s → drawn_shape stack k Second ≡
      Ok s
  go true made = made
  go false made = absurd (cc made)

pub predicted_runs_have_the_shape : PredictedRunsHaveTheShape
predicted_runs_have_the_shape case stack k s states task made =
    drawn_runs_have_the_shape case stack k s states task (was_drawn stack k case s made)
