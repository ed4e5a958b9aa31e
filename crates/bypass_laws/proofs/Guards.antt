-- Hoisting yields guarded handlers of all traces that are well formed.
use Rattle.std.proofs.Common.{◌≡◌, Bool, true, List, [], ◌∷◌, Some, None, refl, sym, ap, ◌∙◌, arith}
use Rattle.std.specs.Prelude.{if◌then◌else◌}
use Rattle.std.specs.List.{list_all}
use Rattle.layer_mean.specs.State.{State}
use Rattle.layer_mean.specs.Tree.{LayerTree}
use Rattle.trace_mean.specs.Trace.{Guarded, Operation, bind, note, check, set, set_square, push, take, output}
use Rattle.trace_mean.specs.Worth.{Input}
use Rattle.trace_mean.specs.Follow.{Followed, on, stopped_at, before, answer_of, follow, follows, perform, is_done}
use Rattle.trace_mean.specs.Follow.{unchecked}
use Rattle.trace_laws.specs.Right.{Enters}
use Rattle.trace_laws.specs.Safe.{SafeTrace}
use Rattle.trace_laws.proofs.Unchecked.{checks_can_go}
use Rattle.trace_form_laws.specs.Closed.{Reach, Closed, entry_reach}
use Rattle.trace_form_laws.specs.There.{AreThere}
use Rattle.trace_form_laws.specs.WellFormed.{IsWellFormed}
use Rattle.trace_form_laws.proofs.WellFormed.{traces_are_well_formed}
use Rattle.bypass_mean.specs.Bypasses.{Entry}
use Rattle.guard_mean.specs.Perform.{End, end_of, answer_end, holds, performed}
use Rattle.guard_mean.specs.Prune.{hoist}
use Rattle.guard_mean.specs.Simplify.{simplified}
use Rattle.guard_laws.proofs.Closed.{hoisted_is_closed, simplified_is_closed}
use Rattle.guard_laws.proofs.Counts.{hoisted_adds_nothing, simplified_adds_nothing}
use Rattle.guard_laws.proofs.Forms.{simplified_stays_formed}
use Rattle.guard_laws.proofs.Simpler.{simplified_is_same}
use Rattle.guard_laws.proofs.Entry.{squares_of, safe_is_sound}
use Rattle.guard_laws.proofs.Same.{hoisted_is_same}
use Rattle.bypass_laws.specs.Stack.{IsGuard}
use Rattle.bypass_laws.specs.Making.{HoistingGuards, SimplifyingGuards}

-- no check is left among operations without checks
no_checks : (os : List Operation) → list_all is_done (unchecked os) ≡ true
no_checks [] = refl
no_checks (bind e ∷ os) = no_checks os
no_checks (note m ∷ os) = no_checks os
no_checks (check e ∷ os) = no_checks os
no_checks (set p c e x ∷ os) = no_checks os
no_checks (set_square p c row column x ∷ os) = no_checks os
no_checks (push p c e numbers message ∷ os) = no_checks os
no_checks (take p c e ∷ os) = no_checks os
no_checks (output dir kind numbers message ∷ os) = no_checks os

still_closed : (stack : List LayerTree) (os : List Operation) (r : Reach) → Closed stack r os →
    Closed stack r (unchecked os)
still_closed stack [] r h = tt
still_closed stack (bind e ∷ os) r h = (h.0, still_closed stack os _ h.1)
still_closed stack (note m ∷ os) r h = (h.0, still_closed stack os _ h.1)
still_closed stack (check e ∷ os) r h = still_closed stack os r h.1
still_closed stack (set p c e x ∷ os) r h = (h.0, still_closed stack os _ h.1)
still_closed stack (set_square p c row column x ∷ os) r h = (h.0, still_closed stack os _ h.1)
still_closed stack (push p c e numbers message ∷ os) r h = (h.0, still_closed stack os _ h.1)
still_closed stack (take p c e ∷ os) r h = (h.0, still_closed stack os _ h.1)
still_closed stack (output dir kind numbers message ∷ os) r h = (h.0, still_closed stack os _ h.1)

still_there : (stack : List LayerTree) (os : List Operation) → AreThere stack os → AreThere stack (unchecked os)
still_there stack [] h = tt
still_there stack (bind e ∷ os) h = (h.0, still_there stack os h.1)
still_there stack (note m ∷ os) h = (h.0, still_there stack os h.1)
still_there stack (check e ∷ os) h = still_there stack os h.1
still_there stack (set p c e x ∷ os) h = (h.0, still_there stack os h.1)
still_there stack (set_square p c row column x ∷ os) h = (h.0, still_there stack os h.1)
still_there stack (push p c e numbers message ∷ os) h = (h.0, still_there stack os h.1)
still_there stack (take p c e ∷ os) h = (h.0, still_there stack os h.1)
still_there stack (output dir kind numbers message ∷ os) h = (h.0, still_there stack os h.1)

-- where the guard holds, following the trace reaches its end
followed_safe : (stack : List LayerTree) (i : Input) (os : List Operation) (states : List State) (b : Bool) (x : End) →
    (if b then Some x else None) ≡ answer_end (follow i os states) → b ≡ true →
    SafeTrace stack i os (on (before states)) →
    SafeTrace stack i (unchecked os) (on (before states))
unfolding follow
followed_safe stack i os states b x same held safe =
    go (follows i os (on (before states))) refl (ap (λ c. if c then Some x else None) (sym held) ∙ same) where
      go : (f : Followed) → follows i os (on (before states)) ≡ f → Some x ≡ answer_end (answer_of f) →
          SafeTrace stack i (unchecked os) (on (before states))
      go (on u) is reaches = (checks_can_go stack i os states u is safe).safe
      go (stopped_at n) is reaches = absurd (cc reaches)

-- hoisting yields a guarded handler of any trace that is well formed
pub hoisted_guards : (stack : List LayerTree) (e : Entry) (trace : List Operation) →
    IsWellFormed stack e.known e.fields trace →
    IsGuard stack e trace (hoist trace)
hoisted_guards stack e trace formed =
    let same : (i : Input) (states : List State) → Enters stack e.known e.fields i states →
    performed i (hoist trace) states ≡ answer_end (follow i trace states) =
    λ i states enters. hoisted_is_same (squares_of stack) i states trace
    (safe_is_sound stack e.known e.fields trace i states formed.there (formed.safe i states enters) enters) in
    let many = hoisted_adds_nothing trace in record {
      same = same;
      unchecked = no_checks trace;
      values = hoisted_is_closed trace;
      closed = still_closed stack trace (entry_reach e.fields) formed.closed;
      there = still_there stack trace formed.there;
      safe = λ i states enters held. followed_safe stack i trace states (holds i (hoist trace) states)
          (end_of (perform i (hoist trace).operations states)) (same i states enters) held
          (formed.safe i states enters);
      joins = omega (arith, many.joins);
      outputs = omega (arith, many.outputs);
    }

-- and simplifying a guarded handler of a trace yields another of it
pub simplified_guards : (stack : List LayerTree) (e : Entry) (trace : List Operation) (g : Guarded) →
    IsGuard stack e trace g →
    IsGuard stack e trace (simplified g)
simplified_guards stack e trace g is =
    let stays = simplified_stays_formed stack g in
    let many = simplified_adds_nothing g in record {
      same = λ i states enters. let both = simplified_is_same g i states in
          (λ t. if both.0 t then Some (end_of (both.1 t)) else None) ∙ is.same i states enters;
      unchecked = stays.unchecked is.unchecked;
      values = simplified_is_closed g is.values;
      closed = stays.closed (entry_reach e.fields) is.closed;
      there = stays.there is.there;
      safe = λ i states enters held. let both = simplified_is_same g i states in
          stays.safe i states (is.safe i states enters (sym both.0 ∙ held));
      joins = omega (arith, many.joins, is.joins);
      outputs = omega (arith, many.outputs, is.outputs);
    }

pub hoisting_guards : HoistingGuards
hoisting_guards stack named case e trace made =
    hoisted_guards stack e trace (traces_are_well_formed case stack e.known e.fields trace named made)

pub simplifying_guards : SimplifyingGuards
simplifying_guards guard stack guards case e trace made =
    simplified_guards stack e trace (guard trace) (guards case e trace made)
