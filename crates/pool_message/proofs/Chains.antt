-- Headers that are put one before the other, from the last one on.
use Rattle.std.proofs.Common.{◌≡◌, ℕ, suc, ◌+◌, ◌-◌, ◌<◌, ◌≤◌, List, ◌∷◌, Some, None, map, length, drop, sym, ap, ◌∙◌}
use Rattle.std.proofs.Common.{arith}
use Rattle.std.proofs.Math.Seq.{drop-cons}
use Rattle.std.proofs.lemmas.Option.{slice_get-get_or, get_or_from_slice_get}
use Rattle.std.specs.List.{range_with_len}
use Rattle.std.specs.Prelude.{slice_get}

pub one_more : {A : Type 0} (xs ys : List A) (k : ℕ) (x : A) → 0 < k → k ≤ length xs → slice_get xs (k - 1) ≡ Some x →
    ys ≡ drop k xs →
    x ∷ ys ≡ drop (k - 1) xs
one_more xs ys k x some within is front =
    let at : suc (k - 1) ≡ k = omega arith in
    sym (drop-cons xs (k - 1) x (omega arith) ∙
    (λ i. get_or_from_slice_get xs (k - 1) x x is i ∷ (ap (λ m. drop m xs) at ∙ sym front) i))

pub never_none : {A : Type 0} (xs : List A) (k : ℕ) (d : A) → 0 < k → k ≤ length xs → slice_get xs (k - 1) ≡ None → ⊥
never_none xs k d some within is = absurd (cc (slice_get-get_or xs (k - 1) d (omega arith)))

pub one_before : {A : Type 0} (f : ℕ → A) (first count k : ℕ) (xs : List A) → 0 < k → k ≤ count →
    xs ≡ map f (range_with_len (first + k) (count - k)) →
    f (first + (k - 1)) ∷ xs ≡ map f (range_with_len (first + (k - 1)) (count - (k - 1)))
one_before f first count k xs some within is =
    let more : count - (k - 1) ≡ suc (count - k) = omega arith in
    let at : first + (k - 1) + 1 ≡ first + k = omega arith in
    sym (ap (λ n. map f (range_with_len (first + (k - 1)) n)) more ∙
    ap (λ m. f (first + (k - 1)) ∷ map f (range_with_len m (count - k))) at ∙
    ap (λ ys. f (first + (k - 1)) ∷ ys) (sym is))
