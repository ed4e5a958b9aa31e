-- A text that is cut where a byte first stands, and how often it stands there.
use Rattle.std.proofs.Common.{◌≡◌, ℕ, ◌+◌, Bool, true, false, List, [], ◌∷◌, length, take, drop, Some, None, refl}
use Rattle.std.proofs.Common.{arith}
use Rattle.std.specs.List.{slice_split}
use Rattle.std.proofs.lemmas.List.Sums.{fails_before_first, position_or_len_is}
use Rattle.std.proofs.lemmas.List.Splits.{slice_split_first, slice_split_none}
use Rattle.memchr.specs.Find.{IsFirstByte}

fails : (b : Bool) → ¬ (b ≡ true) → b ≡ false
fails true h = absurd (h refl)
fails false h = refl

-- the first part stands before the first byte that passes
pub split_at_some : (p : ℕ → Bool) (xs : List ℕ) (i : ℕ) → IsFirstByte p xs (Some i) → slice_split p xs ≡ take i xs ∷
    slice_split p (drop (i + 1) xs)
split_at_some p xs i first =
    let place = position_or_len_is p xs i 0 (omega (arith, first.0.high))
    (λ k below. fails _ (first.0.before k (omega arith) below)) (λ _. first.1) in
    rw (← place) (slice_split_first p xs 0 (omega (arith, place, first.0.high)))

-- a text in which none passes is one part
pub split_at_none : (p : ℕ → Bool) (xs : List ℕ) → IsFirstByte p xs None → slice_split p xs ≡ xs ∷ []
split_at_none p xs none =
    let place = position_or_len_is p xs (length xs) 0 (omega arith) (λ k below. fails _ (none k (omega arith) below))
    (λ below. absurd (omega arith)) in
    slice_split_none p xs (λ k d h. fails_before_first p xs k d (omega (arith, place)))
