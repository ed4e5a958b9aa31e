-- Places in lists of lists.
use Rattle.std.proofs.Common.{arith, ◌≡◌, refl, ◌∙◌, ap, ℕ, zero, suc, ◌+◌, ◌<◌, List, [], ◌∷◌, ◌++◌, length, Some}
use Rattle.std.specs.Prelude.{take, slice_get}
use Rattle.std.specs.List.{flat_map, sum_by}
use Rattle.std.proofs.lemmas.List.Sums.{sum_by-cons}

plain_sum : (n : ℕ) → 0 + n ≡ n
plain_sum n = omega arith

-- What stands after a list.
pub following : {A : Type 0} (xs ys : List A) (i : ℕ) → slice_get (xs ++ ys) (length xs + i) ≡ slice_get ys i
following [] ys i = ap (slice_get ys) (plain_sum i)
following (x ∷ xs) ys i = ap (slice_get (x ∷ xs ++ ys)) (moved (length xs) i) ∙ following xs ys i
  where
    moved : (n k : ℕ) → suc n + k ≡ suc (n + k)
    moved n k = omega arith

-- What stands in the first of two.
pub within : {A : Type 0} (xs ys : List A) (i : ℕ) → i < length xs → slice_get (xs ++ ys) i ≡ slice_get xs i
within [] ys i less = absurd (omega (arith, less))
within (x ∷ xs) ys zero less = refl
within (x ∷ xs) ys (suc i) less = within xs ys i (omega (arith, less))

-- What a beginning of a list has, the list has.
pub from_take : {A : Type 0} (n : ℕ) (xs : List A) (i : ℕ) (x : A) → slice_get (take n xs) i ≡ Some x →
    slice_get xs i ≡ Some x
from_take zero xs i x e = absurd (cc e)
from_take (suc n) [] i x e = absurd (cc e)
from_take (suc n) (y ∷ xs) zero x e = e
from_take (suc n) (y ∷ xs) (suc i) x e = from_take n xs i x e

-- A place in one of several lists that stand after each other.
pub in_group : {A B : Type 0} (h : A → List B) (before : List A) (g : A) (rest : List A) (i : ℕ) → i < length (h g) →
    slice_get (flat_map h (before ++ g ∷ rest)) (sum_by (λ x. length (h x)) before + i) ≡ slice_get (h g) i
in_group h [] g rest i less = ap (slice_get (h g ++ flat_map h rest)) (plain_sum i) ∙ within
    (h g) (flat_map h rest) i less
in_group h (x ∷ before) g rest i less =
    ap (λ n. slice_get (h x ++ flat_map h (before ++ g ∷ rest)) (n + i)) (sum_by-cons (λ y. length (h y)) x before)
    ∙ ap (slice_get (h x ++ flat_map h (before ++ g ∷ rest)))
    (moved (length (h x)) (sum_by (λ y. length (h y)) before) i)
    ∙ following (h x) (flat_map h (before ++ g ∷ rest)) (sum_by (λ y. length (h y)) before + i)
    ∙ in_group h before g rest i less
  where
    moved : (a b c : ℕ) → a + b + c ≡ a + (b + c)
    moved a b c = omega arith
