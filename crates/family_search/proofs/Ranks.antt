-- The acts of a kind by their ranks.
use Rattle.std.proofs.Common.{◌≡◌, ℕ, zero, suc, Bool, true, false, cond, List, [], ◌∷◌, length, map, take, filter}
use Rattle.std.proofs.Common.{refl}
use Rattle.std.proofs.Common.{sym, ap, ◌∙◌, arith, Some}
use Rattle.std.specs.Prelude.{slice_get, count_by}
use Rattle.std.proofs.lemmas.List.Sums.{length-filter}
use Rattle.std.proofs.lemmas.Option.{slice_get_within}
use Rattle.script_mean.specs.declared.event.ScriptEvent.{ScriptEvent}
use Rattle.family_search.specs.declared.choice.Choice.{Choice}

at_first : (b : Bool) (x : ScriptEvent) (ys zs : List ScriptEvent) → b ≡ true →
    slice_get (cond b (x ∷ ys) zs) 0 ≡ Some x
at_first true x ys zs is = refl
at_first false x ys zs is = absurd (cc)

-- What a test holds of stands, among all of these, at the number of those before it.
pub at_rank : (p : ScriptEvent → Bool) (xs : List ScriptEvent) (i : ℕ) (e : ScriptEvent) → slice_get xs i ≡ Some e →
    p e ≡ true → slice_get (filter p xs) (length (filter p (take i xs))) ≡ Some e
at_rank p [] i e is holds = let lt = slice_get_within [] i e is in absurd (omega (arith, lt))
at_rank p (x ∷ xs) zero e is holds =
    let same : x ≡ e = cc in
    at_first (p x) x (filter p xs) (filter p xs) (ap p same ∙ holds) ∙ ap Some same
at_rank p (x ∷ xs) (suc i) e is holds =
    let h : slice_get (filter p xs) (length (filter p (take i xs))) ≡ Some e = at_rank p xs i e is holds in
    elim (p x) as (λ b.
    slice_get (cond b (x ∷ filter p xs) (filter p xs))
    (length (cond b (x ∷ filter p (take i xs)) (filter p (take i xs))))
    ≡ Some e) [ true ↦ h | false ↦ h ]

-- Where among all it stands.
pub record Ranked (p : ScriptEvent → Bool) (xs : List ScriptEvent) (n : ℕ) (e : ScriptEvent) : Type 0 where
  pub i : ℕ
  pub there : slice_get xs i ≡ Some e
  pub rank : length (filter p (take i xs)) ≡ n
  pub holds : p e ≡ true

rank_yes : (b : Bool) (x : ScriptEvent) (ys : List ScriptEvent) → b ≡ true → length (cond b (x ∷ ys) ys) ≡
    suc (length ys)
rank_yes true x ys is = refl
rank_yes false x ys is = absurd (cc)

rank_no : (b : Bool) (x : ScriptEvent) (ys : List ScriptEvent) → b ≡ false → length (cond b (x ∷ ys) ys) ≡ length ys
rank_no false x ys is = refl
rank_no true x ys is = absurd (cc)

one_more : (p : ScriptEvent → Bool) (x : ScriptEvent) (xs : List ScriptEvent) (n : ℕ) (e : ScriptEvent) (b : Bool) →
    p x ≡ b → ((m : ℕ) → slice_get (filter p xs) m ≡ Some e → Ranked p xs m e) →
    slice_get (cond b (x ∷ filter p xs) (filter p xs)) n ≡ Some e → Ranked p (x ∷ xs) n e
one_more p x xs zero e true here rest is =
    let same : x ≡ e = cc in
    record { i = 0; there = ap Some same; rank = refl; holds = ap p (sym same) ∙ here }
one_more p x xs (suc n) e true here rest is =
    let h = rest n is in record {
      i = suc h.i;
      there = h.there;
      rank = rank_yes (p x) x (filter p (take h.i xs)) here ∙ ap suc h.rank;
      holds = h.holds;
    }
one_more p x xs n e false here rest is =
    let h = rest n is in record {
      i = suc h.i;
      there = h.there;
      rank = rank_no (p x) x (filter p (take h.i xs)) here ∙ h.rank;
      holds = h.holds;
    }

pub from_rank : (p : ScriptEvent → Bool) (xs : List ScriptEvent) (n : ℕ) (e : ScriptEvent) →
    slice_get (filter p xs) n ≡ Some e → Ranked p xs n e
from_rank p [] n e is = let lt = slice_get_within [] n e is in absurd (omega (arith, lt))
from_rank p (x ∷ xs) n e is = one_more p x xs n e (p x) refl (λ m h. from_rank p xs m e h) is

-- Counting what things become.
filter-map : (p : ScriptEvent → Bool) (g : Choice → ScriptEvent) (xs : List Choice) →
    length (filter p (map g xs)) ≡ length (filter (λ x. p (g x)) xs)
filter-map p g [] = refl
filter-map p g (x ∷ xs) =
    elim (p (g x)) as (λ b.
    length (cond b (g x ∷ filter p (map g xs)) (filter p (map g xs)))
    ≡ length (cond b (x ∷ filter (λ x. p (g x)) xs) (filter (λ x. p (g x)) xs)))
    [ true ↦ ap suc (filter-map p g xs) | false ↦ filter-map p g xs ]

pub count-map : (p : ScriptEvent → Bool) (g : Choice → ScriptEvent) (xs : List Choice) →
    count_by p (map g xs) ≡ count_by (λ x. p (g x)) xs
count-map p g xs =
    sym (length-filter p (map g xs)) ∙ filter-map p g xs ∙ length-filter (λ x. p (g x)) xs
