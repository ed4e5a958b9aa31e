-- A hoisted guarded handler does the same as its trace.
use Rattle.std.proofs.Common.{◌≡◌, ℕ, ◌+◌, Bool, true, false, if◌then◌else◌, List, [], ◌∷◌, Some, None, fold, refl, sym}
use Rattle.std.proofs.Common.{ap, ◌∙◌, subst}
use Rattle.layer_mean.specs.State.{State}
use Rattle.layer_mean.specs.Value.{is_true}
use Rattle.trace_mean.specs.Trace.{Operation, bind, note, check, set, set_square, push, take, output, Guarded}
use Rattle.trace_mean.specs.Worth.{Input, number_of}
use Rattle.trace_mean.specs.Follow.{Trail, Followed, on, stopped_at, does, operates, follows, before, answer_of, follow}
use Rattle.trace_mean.specs.Follow.{perform, unchecked}
use Rattle.guard_mean.specs.Perform.{values_of, holds, end_of, answer_end, performed}
use Rattle.guard_mean.specs.Hoist.{Hoisting, hoists, nothing_yet, hoisted}
use Rattle.guard_mean.specs.Prune.{hoist}
use Rattle.guard_laws.proofs.Pruned.{pruned_holds}
use Rattle.guard_laws.specs.Sound.{Squares, Sound}
use Rattle.guard_laws.specs.Same.{HoistedIsSame}
use Rattle.guard_laws.proofs.Grows.{grown_same}
use Rattle.guard_laws.proofs.Steps.{Claim, stays_failed, step}

module _ (sq : Squares) (i : Input) (ss : List State) where
  along : (operations : List Operation) (h : Hoisting) (f : Followed) → Sound sq i operations f → Claim sq i ss f h →
      Claim sq i ss (follows i operations f) (fold hoists h operations)
  along [] h f sound claim = claim
  along (o ∷ operations) h (on t) sound claim = along operations (hoists h o) (operates i t o) sound.1
      (step sq i ss t h o sound.0 claim)
  along (o ∷ operations) h (stopped_at k) sound claim =
      along operations (hoists h o) (stopped_at k) (unsound operations k)
      (stays_failed sq i ss h o claim) where
        unsound : (operations : List Operation) (k : ℕ) → Sound sq i operations (stopped_at k)
        unsound [] k = tt
        unsound (o ∷ operations) k = tt

  pub start : Claim sq i ss (on (before ss)) nothing_yet
  start = record {
    standing = λ vs b. record {
      none = refl;
      binds = refl;
      notes = refl;
      taken = λ r f. refl;
      fits = tt;
      numbers = λ p c j. refl;
      rows = λ p c j. refl;
      extents = λ p c. refl;
      lengths = refl;
    };
    passed = λ vs b. refl;
  }

-- what was stopped stays so
pub stays : (i : Input) (operations : List Operation) (k : ℕ) → follows i operations (stopped_at k) ≡ stopped_at k
stays i [] k = refl
stays i (o ∷ operations) k = stays i operations k

abbrev uncounted : Trail → Trail
uncounted t = record t { checks = 0 }

-- without the checks the end is the same
abbrev Ends : Followed → Trail → Type 0
Ends (on t) u = u ≡ uncounted t
Ends (stopped_at k) u = Unit {0}

checked : (i : Input) (operations : List Operation) (t : Trail) (u : Trail) (b : Bool) →
    Ends (follows i operations (on (record t { checks = t.checks + 1 }))) u →
    Ends (follows i operations (if b then on (record t { checks = t.checks + 1 }) else stopped_at t.checks)) u
checked i operations t u true rest = rest
checked i operations t u false rest = subst (λ f. Ends f u) (sym (stays i operations t.checks)) tt

freely : (i : Input) (operations : List Operation) (t u : Trail) → u ≡ uncounted t →
    Ends (follows i operations (on t)) (fold (does i) u (unchecked operations))
freely i [] t u is = is
freely i (check e ∷ operations) t u is =
    checked i operations t _ (is_true (number_of i t.kept t.states e))
    (freely i operations (record t { checks = t.checks + 1 }) u is)
freely i (bind e ∷ operations) t u is = freely i operations _ _ (ap (λ w. does i w (bind e)) is)
freely i (note m ∷ operations) t u is = freely i operations _ _ (ap (λ w. does i w (note m)) is)
freely i (set p c e v ∷ operations) t u is = freely i operations _ _ (ap (λ w. does i w (set p c e v)) is)
freely i (set_square p c r k v ∷ operations) t u is =
    freely i operations _ _ (ap (λ w. does i w (set_square p c r k v)) is)
freely i (push p c e numbers m ∷ operations) t u is =
    freely i operations _ _ (ap (λ w. does i w (push p c e numbers m)) is)
freely i (take p c e ∷ operations) t u is = freely i operations _ _ (ap (λ w. does i w (take p c e)) is)
freely i (output dir kind numbers m ∷ operations) t u is =
    freely i operations _ _ (ap (λ w. does i w (output dir kind numbers m)) is)

-- a guarded handler and a trace that end alike
abbrev SameAs : Input → List State → Guarded → Followed → Type 0
SameAs i ss g (on t) = (holds i g ss ≡ true) × (perform i g.operations ss ≡ uncounted t)
SameAs i ss g (stopped_at k) = holds i g ss ≡ false

first_same : (sq : Squares) (i : Input) (ss : List State) (operations : List Operation) →
    Sound sq i operations (on (before ss)) → SameAs i ss (hoisted operations) (follows i operations (on (before ss)))
first_same sq i ss operations sound =
    go (follows i operations (on (before ss)))
    (along sq i ss operations nothing_yet (on (before ss)) sound (start sq i ss))
    (freely i operations (before ss) (before ss) refl) where
      h : Hoisting
      h = fold hoists nothing_yet operations

      go : (f : Followed) → Claim sq i ss f h → Ends f (perform i (unchecked operations) ss) →
          SameAs i ss (hoisted operations) f
      go (on t) claim ends = (claim.passed (values_of i ss h.values) (grown_same (values_of i ss h.values)), ends)
      go (stopped_at k) failed ends = failed (values_of i ss h.values) (grown_same (values_of i ss h.values))

pub chosen_end : (b c : Bool) (t u : Trail) → b ≡ c → end_of t ≡ end_of u → (if b then Some (end_of t) else None) ≡
    (if c then Some (end_of u) else None)
chosen_end b c t u same ends = λ z. if same z then Some (ends z) else None

ends_alike : (i : Input) (ss : List State) (g : Guarded) (f : Followed) → SameAs i ss g f →
    performed i g ss ≡ answer_end (answer_of f)
ends_alike i ss g (on t) so = chosen_end (holds i g ss) true (perform i g.operations ss) t so.0 (ap end_of so.1)
ends_alike i ss g (stopped_at k) so = ap (λ (b : Bool). if b then Some (end_of (perform i g.operations ss)) else None)
    so

at_the_end : (sq : Squares) (i : Input) (ss : List State) (operations : List Operation) →
    Sound sq i operations (on (before ss)) → performed i (hoist operations) ss ≡ answer_end (follow i operations ss)
unfolding follow
at_the_end sq i ss operations sound =
    chosen_end (holds i (hoist operations) ss) (holds i (hoisted operations) ss) (perform i (unchecked operations) ss)
    (perform i (unchecked operations) ss)
    (pruned_holds (hoisted operations) i ss) refl
    ∙ ends_alike i ss (hoisted operations) (follows i operations (on (before ss))) (first_same sq i ss operations sound)

pub hoisted_is_same : HoistedIsSame
hoisted_is_same sq i ss operations sound = at_the_end sq i ss operations sound
