-- Groups whose bytes follow one another are found by their distance from the first.
use Rattle.std.proofs.Common.{◌≡◌, ℕ, zero, suc, ◌+◌, ◌<◌, ◌≤◌, nat_eq, Bool, true, false, cond, ◌&&◌, List, [], ◌∷◌}
use Rattle.std.proofs.Common.{length, find, Some, None, refl, ap, ◌∙◌, eqb-true, arith, get_or}
use Rattle.std.proofs.lemmas.Bool.{ne_eqb, eq-eqb}
use Rattle.file_lex.specs.Tables.{are_in_row}

both_true : (s t : Bool) → (s && t) ≡ true → (s ≡ true) × (t ≡ true)
both_true true true is = (refl, refl)
both_true true false is = cc
both_true false t is = cc

module _ {X : Type 0} where
  -- what a first group says of those after it
  first_and_rest : (base : ℕ) (g : ℕ × X) (gs : List (ℕ × X)) → are_in_row base (g ∷ gs) ≡ true →
      (g.0 ≡ base) × (are_in_row (suc base) gs ≡ true)
  first_and_rest base g gs row =
      let h = both_true (nat_eq g.0 base) (are_in_row (suc base) gs) row in (eqb-true g.0 base h.0, h.1)

  -- below the first byte there is no group
  pub group_below : (base b : ℕ) (groups : List (ℕ × X)) → are_in_row base groups ≡ true → b < base →
      find (λ g. nat_eq b g.0) groups ≡ None
  group_below base b [] row below = refl
  group_below base b (g ∷ gs) row below =
      let h = first_and_rest base g gs row in
      ap (λ t. cond t (Some g) (find (λ k. nat_eq b k.0) gs)) (ne_eqb b g.0 (λ same. omega (arith, same, h.0, below)))
      ∙ group_below (suc base) b gs h.1 (omega (arith, below))

  -- from there on it stands at its distance
  pub group_at : (base b k : ℕ) (groups : List (ℕ × X)) (d : ℕ × X) → are_in_row base groups ≡ true → b ≡ base + k →
      k < length groups → find (λ g. nat_eq b g.0) groups ≡ Some (get_or groups k d)
  group_at base b k [] d row is within = absurd (omega (arith, within))
  group_at base b zero (g ∷ gs) d row is within =
      let h = first_and_rest base g gs row in
      ap (λ t. cond t (Some g) (find (λ j. nat_eq b j.0) gs)) (eq-eqb b g.0 (omega (arith, is, h.0)))
  group_at base b (suc k) (g ∷ gs) d row is within =
      let h = first_and_rest base g gs row in
      ap (λ t. cond t (Some g) (find (λ j. nat_eq b j.0) gs)) (ne_eqb b g.0 (λ same. omega (arith, same, h.0, is)))
      ∙ group_at (suc base) b k gs d h.1 (omega (arith, is)) (omega (arith, within))

  -- and after the last there is none
  pub group_past : (base b k : ℕ) (groups : List (ℕ × X)) → are_in_row base groups ≡ true → b ≡ base + k →
      length groups ≤ k → find (λ g. nat_eq b g.0) groups ≡ None
  group_past base b k [] row is past = refl
  group_past base b zero (g ∷ gs) row is past = absurd (omega (arith, past))
  group_past base b (suc k) (g ∷ gs) row is past =
      let h = first_and_rest base g gs row in
      ap (λ t. cond t (Some g) (find (λ k. nat_eq b k.0) gs)) (ne_eqb b g.0 (λ same. omega (arith, same, h.0, is)))
      ∙ group_past (suc base) b k gs h.1 (omega (arith, is)) (omega (arith, past))
