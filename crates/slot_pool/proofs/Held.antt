-- Small laws of what a slot holds.
use Rattle.std.proofs.Common.{◌≡◌, ℕ, zero, suc, ◌<◌, ◌≤◌, List, ◌⊎◌, refl, arith}
use Rattle.slot_pool.specs.Held.{held_bytes, held_if, free_by}

pub below_or_not : (i n : ℕ) → (i < n) ⊎ (n ≤ i)
below_or_not i n = grind arith

pub count-held_if : (n : ℕ) (bs : List ℕ) → (held_if n bs).count ≡ n
count-held_if zero bs = refl
count-held_if (suc n) bs = refl

pub held_if_used : (n : ℕ) (bs : List ℕ) → 0 < n → held_if n bs ≡ held_bytes n bs
held_if_used zero bs pos = absurd (omega arith)
held_if_used (suc n) bs pos = refl

pub free_by_used : (n : ℕ) → 0 < n → free_by n ≡ 0
free_by_used zero pos = absurd (omega arith)
free_by_used (suc n) pos = refl

pub used_of_free_by : (n : ℕ) → free_by n ≡ 0 → 0 < n
used_of_free_by zero e = absurd (omega arith)
used_of_free_by (suc n) e = omega arith
