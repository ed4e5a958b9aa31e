-- How many digits of a number are set, by looking at no more of them than there can be.
use Rattle.std.proofs.Common.{◌≡◌, ℕ, suc, zero, ◌+◌, ◌/◌, ◌%◌, ◌^◌, ◌<◌, refl, sym, ap, ◌∙◌, arith}
use Rattle.std.proofs.Math.Nat.{pow-suc}
use Rattle.std.specs.Int.Count.{ones, ones_in}

ones_of_zero : (d : ℕ) → ones_in d 0 ≡ 0
unfolding ones_in
ones_of_zero zero = refl
ones_of_zero (suc d) = let rest = ones_of_zero d in omega (arith, rest)

ones_enough : (d e n : ℕ) → n < 2 ^ d → n < 2 ^ e → ones_in d n ≡ ones_in e n
unfolding ones_in
ones_enough zero e n first second =
    let none : n ≡ 0 = omega (arith, first) in ap (ones_in zero) none ∙ sym (ones_of_zero e) ∙ ap (ones_in e) (sym none)
ones_enough (suc d) zero n first second =
    let none : n ≡ 0 = omega (arith, second) in ap (ones_in (suc d)) none ∙ ones_of_zero (suc d)
ones_enough (suc d) (suc e) n first second =
    ap (λ k. n % 2 + k) (ones_enough d e (n / 2) (omega (arith, first, pow-suc 2 d))
    (omega (arith, second, pow-suc 2 e)))

below_power : (n : ℕ) → n < 2 ^ n
below_power zero = omega arith
below_power (suc n) = let less = below_power n in omega (arith, less, pow-suc 2 n)

-- a number of 32 digits has as many set as its first 32
pub ones_of_32 : (n : ℕ) → n < 2 ^ 32 → ones n ≡ ones_in 32 n
unfolding ones
ones_of_32 n small = ones_enough n 32 n (below_power n) small
