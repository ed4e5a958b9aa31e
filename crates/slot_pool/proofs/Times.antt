-- Laws of how often a number stands in a list.
use Rattle.std.proofs.Common.{◌≡◌, ℕ, ◌+◌, List, [], ◌∷◌, ◌++◌, ◌⊎◌, inl, inr, cond, refl, sym, ap, ◌∙◌, zero-add}
use Rattle.std.proofs.Common.{add_assoc}
use Rattle.std.proofs.lemmas.Bool.Decides.{eqb_tells}
use Rattle.slot_pool.specs.Times.{hit, times}

-- a number is hit by itself alone
pub hit_or_not : (i x : ℕ) → ((i ≡ x) × (hit i x ≡ 1)) ⊎ ((i ≡ x → ⊥) × (hit i x ≡ 0))
hit_or_not i x = elim (eqb_tells i x)
    [ inl same ↦ inl (same.1, ap (λ b. cond b 1 0) same.0) | inr other ↦ inr (other.1, ap (λ b. cond b 1 0) other.0) ]

pub hit_same : (i : ℕ) → hit i i ≡ 1
hit_same i = elim (hit_or_not i i) [ inl same ↦ same.1 | inr other ↦ absurd (other.0 refl) ]

pub hit_other : (i x : ℕ) → (i ≡ x → ⊥) → hit i x ≡ 0
hit_other i x differ = elim (hit_or_not i x) [ inl same ↦ absurd (differ same.0) | inr other ↦ other.1 ]

pub times-append : (i : ℕ) (xs ys : List ℕ) → times i (xs ++ ys) ≡ times i xs + times i ys
times-append i [] ys = sym (zero-add (times i ys))
times-append i (x ∷ xs) ys = ap (λ n. hit i x + n) (times-append i xs ys) ∙
    sym (add_assoc (hit i x) (times i xs) (times i ys))
