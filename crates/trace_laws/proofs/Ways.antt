-- What following the operations of predicted steps does is what walking them does; after a check that was 0 nothing is
-- done.
use Rattle.std.proofs.Common.{◌≡◌, ℕ, ◌<◌, Bool, true, false, List, [], ◌∷◌, ◌++◌, Option, Some, None, refl, ◌∙◌, subst}
use Rattle.std.specs.Prelude.{length, Result, Ok, Err}
use Rattle.layer_mean.specs.declared.run.Case.TheVariants.{First, Second}
use Rattle.layer_mean.specs.Tree.{ContentTree, EmissionTree, LayerTree}
use Rattle.layer_mean.specs.State.{State}
use Rattle.layer_mean.specs.Way.{Step, test, fork, set_slot, set_number, set_square, put, get, send, loop}
use Rattle.stack_mean.specs.NoShape.{NoShape, drawn_from}
use Rattle.shape_laws.specs.Walk.{Here, walk_step}
use Rattle.shape_laws.specs.Bare.{BareBeyond}
use Rattle.trace_mean.specs.Trace.{Operation}
use Rattle.trace_mean.specs.Follow.{Trail, stopped_at}
use Rattle.trace_mean.specs.Scope.{Worded, traced_message}
use Rattle.trace_mean.specs.Fuse.{Tracing, sending_known, traced_send, trace_step, trace_steps}
use Rattle.trace_laws.specs.Along.{Along}
use Rattle.trace_laws.specs.Fit.{FitStep}
use Rattle.trace_laws.proofs.Walks.{Walked, went, missed, decides_it, one_more, walked_on, walk}
use Rattle.trace_laws.proofs.Later.{Later, later_self, later_on}
use Rattle.trace_laws.proofs.Goes.{Start, Goes, goes_more, goes_stopped}
use Rattle.trace_laws.proofs.Steps.{Stands, Claim, StepClaim, step_came}
use Rattle.trace_mean.specs.Worth.{Input}

-- what stopped stays so
abbrev pub Stopped : Input → Start → Result Tracing NoShape → ℕ → Type 0
Stopped i f (Err reason) n = Unit {0}
Stopped i f (Ok y) n = Goes f.stack i y.made.operations f.followed (stopped_at n)

module _ (i : Input) (f : Start) (layer : LayerTree) (p : ℕ) where
  more_stays : (y : Tracing) (os : List Operation) (n : ℕ) →
      Goes f.stack i y.made.operations f.followed (stopped_at n) →
      Goes f.stack i (y.made.operations ++ os) f.followed (stopped_at n)
  more_stays y os n is = goes_more f.stack i y.made.operations os f.followed (stopped_at n) (stopped_at n) is
      (goes_stopped f.stack i os n)

  known_stays : (b : Bool) (e : EmissionTree) (c : ContentTree) (x : Worded) (y : Tracing) (n : ℕ) →
      Goes f.stack i y.made.operations f.followed
      (stopped_at n) →
      Stopped i f (sending_known b p y e c x) n
  known_stays true e c x y n is = more_stays y _ n is
  known_stays false e c x y n is = tt

  send_stays : (e : EmissionTree) (c : Option ContentTree) (y : Tracing) (n : ℕ) →
      Goes f.stack i y.made.operations f.followed (stopped_at n) →
      Stopped i f (traced_send p y e c) n
  send_stays e None y n is = more_stays y _ n is
  send_stays e (Some c) y n is = known_stays (traced_message p y.names c.message).known e c
      (traced_message p y.names c.message) y n is

  step_stays : (x : Step) (y : Tracing) (n : ℕ) → Goes f.stack i y.made.operations f.followed (stopped_at n) →
      Stopped i f (trace_step layer p x y) n
  step_stays (test true e) y n is = more_stays y _ n is
  step_stays (test false e) y n is = more_stays y _ n is
  step_stays (fork First e) y n is = more_stays y _ n is
  step_stays (fork Second e) y n is = more_stays y _ n is
  step_stays (set_slot k e) y n is = more_stays y _ n is
  step_stays (set_number c e x) y n is = more_stays y _ n is
  step_stays (set_square c row column x) y n is = more_stays y _ n is
  step_stays (put c e capacity row) y n is = more_stays y _ n is
  step_stays (get c e taken) y n is = more_stays y _ n is
  step_stays (send e) y n is = send_stays e e.content y n is
  step_stays loop y n is = tt

  beyond_stays : (xs : List Step) (n : ℕ) →
      ((y : Tracing) → Goes f.stack i y.made.operations f.followed (stopped_at n) → Stopped i f
      (trace_steps layer p xs y) n) →
      (r : Result Tracing NoShape) → Stopped i f r n → Stopped i f (drawn_from (trace_steps layer p xs) r) n
  beyond_stays xs n rest (Err reason) is = tt
  beyond_stays xs n rest (Ok y) is = rest y is

  pub steps_stay : (xs : List Step) (y : Tracing) (n : ℕ) → Goes f.stack i y.made.operations f.followed (stopped_at n) →
      Stopped i f
      (trace_steps layer p xs y) n
  steps_stay [] y n is = is
  steps_stay (x ∷ xs) y n is = beyond_stays xs n (λ y is. steps_stay xs y n is) (trace_step layer p x y)
      (step_stays x y n is)

module _ (i : Input) (f : Start) (base : List State) (layer : LayerTree) (p : ℕ) (inside : p < length base) where
  abbrev Claims : Trail → Result Tracing NoShape → Walked → Type 0
  Claims t r w = Claim i f base layer p inside t r w

  stopped_claim : (t : Trail) (r : Result Tracing NoShape) (n : ℕ) → Stopped i f r n → Claims t r (missed n)
  stopped_claim t (Err reason) n is = tt
  stopped_claim t (Ok y) n is = is

  carry : (t u : Trail) → Later t.kept u.kept → u.outs ≡ t.outs → (r : Result Tracing NoShape) (w : Walked) →
      Claims u r w → Claims t r w
  carry t u later outs (Err reason) w claim = tt
  carry t u later outs (Ok y) (missed n) claim = claim
  carry t u later outs (Ok y) (went n h) claim = record {
    trail = claim.trail;
    stands = claim.stands;
    later = later_on t.kept u.kept claim.trail.kept later claim.later;
    checks = claim.checks;
    outs = claim.outs ∙ outs;
  }

  abbrev Rest : List Step → Type 0
  Rest xs = (y : Tracing) (t : Trail) (h : Here) → Stands i f base layer p inside y t h →
      Along (FitStep f.stack p layer) p xs h →
      Claims t (trace_steps layer p xs y) (walk p xs t.checks h)

  way_on : (xs : List Step) (k : Bool) (t : Trail) → Rest xs → (r : Result Tracing NoShape) (w : Option Here) →
      StepClaim i f base layer p inside t r k w → BareBeyond (Along (FitStep f.stack p layer) p xs) w →
      Claims t (drawn_from (trace_steps layer p xs) r) (walked_on (walk p xs) k t.checks w)
  way_on xs k t rest (Err reason) w claim fit = tt
  way_on xs k t rest (Ok y) None claim fit =
      stopped_claim t (trace_steps layer p xs y) t.checks (steps_stay i f layer p xs y t.checks claim)
  way_on xs k t rest (Ok y) (Some h) claim fit =
      carry t claim.trail claim.later claim.outs (trace_steps layer p xs y) (walk p xs (one_more k t.checks) h)
      (subst (λ n. Claims claim.trail (trace_steps layer p xs y) (walk p xs n h)) claim.checks
      (rest y claim.trail h claim.stands fit))

  pub way_came : (xs : List Step) (y : Tracing) (t : Trail) (h : Here) → Stands i f base layer p inside y t h →
      Along (FitStep f.stack p layer) p xs h →
      Claims t (trace_steps layer p xs y) (walk p xs t.checks h)
  way_came [] y t h stands fit =
      record { trail = t; stands = stands; later = later_self t.kept; checks = refl; outs = refl }
  way_came (x ∷ xs) y t h stands fit =
      way_on xs (decides_it x) t (way_came xs) (trace_step layer p x y) (walk_step p x h)
      (step_came i f base layer p inside y t h stands x fit.0) fit.1
