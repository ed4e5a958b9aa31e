-- Items of which the first stands by itself.
use Rattle.std.proofs.Common.{◌≡◌, ℕ, zero, suc, ◌-◌, ◌<◌, ◌≤◌, List, [], ◌∷◌, drop, length, slice_get, refl, sym, ap}
use Rattle.std.proofs.Common.{arith}
use Rattle.std.specs.Prelude.{◌≢◌, None, Some}
use Rattle.circular_buffer.specs.Buffer.{last_item}
use Rattle.pool_message.specs.Lines.{in_line}

module _ {A : Type 0} where
  pub many : (count : ℕ) (first : A) (others : List A) → length others ≡ count - 1 →
      count ≡ length (in_line count first others)
  many zero first others is = refl
  many (suc n) first others is = omega (arith, is)

  -- the first
  pub first_none : (count : ℕ) (first : A) (others : List A) → count ≡ 0 →
      None ≡ slice_get (in_line count first others) 0
  first_none zero first others none = refl
  first_none (suc n) first others none = absurd (omega (arith, none))

  pub first_some : (count : ℕ) (first : A) (others : List A) → count ≢ 0 →
      Some first ≡ slice_get (in_line count first others) 0
  first_some zero first others some = absurd (some refl)
  first_some (suc n) first others some = refl

  -- the last
  pub last_first : (xs : List A) → length xs < 2 → slice_get xs 0 ≡ last_item xs
  last_first [] few = refl
  last_first (x ∷ []) few = refl
  last_first (x ∷ y ∷ xs) few = absurd (omega (arith, few))

  pub last_other : (count : ℕ) (first : A) (others : List A) → length others ≡ count - 1 → 2 ≤ count →
      last_item others ≡ last_item (in_line count first others)
  last_other zero first others is more = absurd (omega (arith, more))
  last_other (suc n) first [] is more = absurd (omega (arith, is, more))
  last_other (suc n) first (x ∷ xs) is more =
      let following : suc (suc (length xs)) - 1 ≡ suc (suc (length xs) - 1) = omega arith in
      sym (ap (slice_get (first ∷ x ∷ xs)) following)

  -- any
  pub got_other : (count : ℕ) (first : A) (others : List A) (index : ℕ) → length others ≡ count - 1 → index ≢ 0 →
      slice_get others (index - 1) ≡ slice_get (in_line count first others) index
  got_other count first others zero is following = absurd (following refl)
  got_other zero first [] (suc k) is following = refl
  got_other zero first (x ∷ xs) (suc k) is following = absurd (omega (arith, is))
  got_other (suc n) first others (suc k) is following = let ahead : suc k - 1 ≡ k = omega arith in
      ap (slice_get others) ahead

  -- the first becomes another one
  pub changed : (count : ℕ) (first item : A) (others : List A) → 0 < length (in_line count first others) →
      in_line count item others ≡ item ∷ drop 1 (in_line count first others)
  changed zero first item others some = absurd (omega (arith, some))
  changed (suc n) first item others some = refl

  -- none
  pub none_other : (count : ℕ) (first : A) (others : List A) → length others ≡ count - 1 → in_line count first others ≡
      [] → others ≡ []
  none_other zero first [] is none = refl
  none_other zero first (x ∷ xs) is none = absurd (omega (arith, is))
  none_other (suc n) first others is none = absurd (cc none)
