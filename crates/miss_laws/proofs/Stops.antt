-- Of a hoisted trace the first conjunct that doesn't hold is the check at which following it stops.
use Rattle.std.proofs.Common.{◌≡◌, ◌∙◌, ℕ, ◌+◌, Bool, true, false, ◌||◌, if◌then◌else◌, List, [], ◌∷◌, length, Option}
use Rattle.std.proofs.Common.{Some}
use Rattle.std.proofs.Common.{fold, refl, sym, ap, arith}
use Rattle.std.specs.Prelude.{not}
use Rattle.std.proofs.lemmas.Iterator.Adapters.{position_from-zero}
use Rattle.std.proofs.lemmas.List.{length-append}
use Rattle.layer_mean.specs.State.{State}
use Rattle.layer_mean.specs.Value.{is_true}
use Rattle.trace_mean.specs.Trace.{TraceNumber, Operation, bind, note, check, set, set_square, push, take, output}
use Rattle.trace_mean.specs.Worth.{Input, number_of, only_values}
use Rattle.trace_mean.specs.Follow.{Trail, Followed, on, stopped_at, operates, goes_on, follows, before, answer_of}
use Rattle.trace_mean.specs.Follow.{follow, is_done}
use Rattle.guard_laws.specs.LastCheck.{has_check, to_last_check}
use Rattle.guard_mean.specs.Perform.{values_of, holds_at}
use Rattle.guard_mean.specs.Hoist.{Hoisting, back, hoists, nothing_yet, hoisted}
use Rattle.guard_laws.specs.Sound.{Squares, Sound}
use Rattle.guard_laws.proofs.Entry.{squares_of, entries_are_sound}
use Rattle.guard_laws.proofs.Grows.{grown_same, back_grows, hoists_grow, conjuncts_grow}
use Rattle.guard_laws.proofs.Means.{After, after_more}
use Rattle.guard_laws.proofs.Same.{start}
use Rattle.guard_laws.proofs.Steps.{On, Claim, step}
use Rattle.guard_mean.specs.Checks.{stop_of, first_unheld}
use Rattle.miss_laws.specs.Checked.{UnheldStops}
use Rattle.miss_laws.proofs.Positions.{failed_from, none_failed, last_failed, first_stays}

module _ (sq : Squares) (i : Input) (ss : List State) where
  -- the first of these that doesn't hold, by these entry values
  abbrev first_of : List ℕ → List TraceNumber → Option ℕ
  first_of vs es = failed_from (holds_at i (only_values vs) ss) 0 es

  -- as many conjuncts hold as checks were passed
  record Passed (t : Trail) (h : Hoisting) : Type 0 where
    guards : On sq i ss t h
    many : t.checks ≡ length h.conjuncts

  -- the conjunct of the check at which a trace stopped is the first that doesn't hold
  abbrev Counts : Followed → Hoisting → Type 0
  Counts (on t) h = Passed t h
  Counts (stopped_at k) h = (vs : List ℕ) → After sq i ss h.values vs → first_of vs h.conjuncts ≡ Some k

  stays_counted : (k : ℕ) (h : Hoisting) (o : Operation) → Counts (stopped_at k) h → Counts (stopped_at k) (hoists h o)
  stays_counted k h o counted vs b = let more = conjuncts_grow h o in
      ap (first_of vs) more.1
      ∙ first_stays (holds_at i (only_values vs) ss) h.conjuncts more.0 0 k
      (counted vs (after_more sq i ss h.values (hoists h o).values vs (hoists_grow h o) b))

  counts_check : (t : Trail) (h : Hoisting) (e : TraceNumber) (b : Bool) → Passed t h →
      Claim sq i ss (if b then on (record t { checks = t.checks + 1 }) else stopped_at t.checks) (hoists h (check e)) →
      Counts (if b then on (record t { checks = t.checks + 1 }) else stopped_at t.checks) (hoists h (check e))
  counts_check t h e true p claim = record {
    guards = claim;
    many = ap (λ n. n + 1) p.many ∙ sym (length-append h.conjuncts ((back h e h.values).term ∷ []));
  }
  counts_check t h e false p failed = λ vs b.
      last_failed (holds_at i (only_values vs) ss) h.conjuncts (back h e h.values).term 0
      (p.guards.passed vs (after_more sq i ss h.values (back h e h.values).values vs (back_grows h e h.values) b))
      (failed vs b)
      ∙ ap Some (let many = p.many in let same : 0 + length h.conjuncts ≡ t.checks = omega (arith, many) in same)

  counts : (operations : List Operation) (h : Hoisting) (f : Followed) → Sound sq i operations f → Counts f h →
      Counts (follows i operations f) (fold hoists h operations)
  counts [] h f sound c = c
  counts (o ∷ operations) h (stopped_at k) sound c = counts operations (hoists h o) (stopped_at k) (unsound operations)
      (stays_counted k h o c) where
        unsound : (operations : List Operation) → Sound sq i operations (stopped_at k)
        unsound [] = tt
        unsound (o ∷ operations) = tt
  counts (o ∷ operations) h (on t) sound c = counts operations (hoists h o) (operates i t o) sound.1
      (one o (step sq i ss t h o sound.0 c.guards) c) where
        one : (o : Operation) → Claim sq i ss (operates i t o) (hoists h o) → Passed t h →
            Counts (operates i t o) (hoists h o)
        one (check e) claim p = counts_check t h e (is_true (number_of i t.kept t.states e)) p claim
        one (bind e) claim p = record { guards = claim; many = p.many }
        one (note m) claim p = record { guards = claim; many = p.many }
        one (set p c e v) claim q = record { guards = claim; many = q.many }
        one (set_square p c r k v) claim q = record { guards = claim; many = q.many }
        one (push p c e numbers m) claim q = record { guards = claim; many = q.many }
        one (take p c e) claim q = record { guards = claim; many = q.many }
        one (output dir kind numbers m) claim p = record { guards = claim; many = p.many }

  ends : (operations : List Operation) → Sound sq i operations (on (before ss)) →
      first_unheld i (hoisted operations) ss ≡ stop_of (follow i operations ss)
  unfolding follow
  ends operations sound = position_from-zero unheld h.conjuncts
      ∙ go (follows i operations (on (before ss)))
      (counts operations nothing_yet (on (before ss)) sound (record { guards = start sq i ss; many = refl })) where
        h : Hoisting
        h = fold hoists nothing_yet operations

        vs : List ℕ
        vs = values_of i ss h.values

        unheld : TraceNumber → Bool
        unheld e = not (holds_at i (only_values vs) ss e)

        go : (f : Followed) → Counts f h → first_of vs h.conjuncts ≡ stop_of (answer_of f)
        go (on t) p = none_failed (holds_at i (only_values vs) ss) h.conjuncts 0 (p.guards.passed vs (grown_same vs))
        go (stopped_at k) c = c vs (grown_same vs)

-- Up to the last check a trace is followed as far as its checks ask.
sound_part : (sq : Squares) (i : Input) (operations : List Operation) (f : Followed) → Sound sq i operations f →
    Sound sq i (to_last_check operations) f
sound_part sq i [] f sound = tt
sound_part sq i (o ∷ operations) (stopped_at k) sound = go (has_check (o ∷ operations)) where
  go : (b : Bool) → Sound sq i (if b then o ∷ to_last_check operations else []) (stopped_at k)
  go true = tt
  go false = tt
sound_part sq i (o ∷ operations) (on t) sound =
    go (has_check (o ∷ operations)) (sound_part sq i operations (operates i t o) sound.1) where
      go : (b : Bool) → Sound sq i (to_last_check operations) (operates i t o) →
          Sound sq i (if b then o ∷ to_last_check operations else []) (on t)
      go true rest = (sound.0, rest)
      go false rest = tt

-- where following stopped, if it did
abbrev stop_in : Followed → Option ℕ
stop_in f = stop_of (answer_of f)

one_stops : (i : Input) (f : Followed) (o : Operation) → not (is_done o) ≡ false → stop_in (goes_on i f o) ≡ stop_in f
one_stops i (stopped_at k) o other = refl
one_stops i (on t) (check e) other = absurd (cc other)
one_stops i (on t) (bind e) other = refl
one_stops i (on t) (note m) other = refl
one_stops i (on t) (set p c e v) other = refl
one_stops i (on t) (set_square p c r k v) other = refl
one_stops i (on t) (push p c e numbers m) other = refl
one_stops i (on t) (take p c e) other = refl
one_stops i (on t) (output dir kind numbers m) other = refl

unchecked_stops : (i : Input) (operations : List Operation) (f : Followed) → has_check operations ≡ false →
    stop_in (follows i operations f) ≡ stop_in f
unchecked_stops i [] f none = refl
unchecked_stops i (o ∷ operations) f none =
    go (not (is_done o)) refl none (unchecked_stops i operations (goes_on i f o)) where
      go : (b : Bool) → not (is_done o) ≡ b → (b || has_check operations) ≡ false →
          (has_check operations ≡ false → stop_in (follows i operations (goes_on i f o)) ≡ stop_in (goes_on i f o)) →
          stop_in (follows i operations (goes_on i f o)) ≡ stop_in f
      go true is none rest = absurd (cc none)
      go false is none rest = rest none ∙ one_stops i f o is

part_stops : (i : Input) (operations : List Operation) (f : Followed) →
    stop_in (follows i (to_last_check operations) f) ≡ stop_in (follows i operations f)
part_stops i [] f = refl
part_stops i (o ∷ operations) f =
    go (has_check (o ∷ operations)) refl (part_stops i operations (goes_on i f o)) where
      go : (b : Bool) → has_check (o ∷ operations) ≡ b →
          stop_in (follows i (to_last_check operations) (goes_on i f o)) ≡
          stop_in (follows i operations (goes_on i f o)) →
          stop_in (follows i (if b then o ∷ to_last_check operations else []) f) ≡
          stop_in (follows i operations (goes_on i f o))
      go true is rest = rest
      go false is rest = sym (unchecked_stops i (o ∷ operations) f is)

follow_stops : (i : Input) (operations : List Operation) (states : List State) →
    stop_of (follow i (to_last_check operations) states) ≡ stop_of (follow i operations states)
unfolding follow
follow_stops i operations states = part_stops i operations (on (before states))

pub unheld_stops : UnheldStops
unheld_stops case stack k fields operations i states named made enters =
    ends (squares_of stack) i states (to_last_check operations)
    (sound_part (squares_of stack) i operations (on (before states))
    (entries_are_sound case stack k fields operations i states named made enters))
    ∙ follow_stops i operations states
