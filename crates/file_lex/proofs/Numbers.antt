-- A number that grows too large while its digits are read is too large.
use Rattle.std.proofs.Common.{◌≡◌, ℕ, zero, suc, ◌+◌, ◌-◌, ◌*◌, ◌<◌, ◌≤◌, List, [], ◌∷◌, length, take, get_or, fold}
use Rattle.std.proofs.Common.{arith, subst}
use Rattle.layer_ast.specs.Cut.{number_of}

-- further digits don't make a number smaller
grows : (a : ℕ) (digits : List ℕ) → a ≤ fold (λ n digit. 10 * n + (digit - 48)) a digits
grows a [] = omega arith
grows a (d ∷ digits) = omega (arith, grows (10 * a + (d - 48)) digits)

-- a number that grows too large at one of its digits is too large in the end, from any number on
exceeds_from : (a : ℕ) (digits : List ℕ) (i d : ℕ) → i < length digits → get_or digits i 0 ≡ d →
    4294967295 < 10 * fold (λ n digit. 10 * n + (digit - 48)) a (take i digits) + (d - 48) →
    4294967295 < fold (λ n digit. 10 * n + (digit - 48)) a digits
exceeds_from a [] i d lt same large = absurd (omega arith)
exceeds_from a (x ∷ digits) zero d lt same large = omega (arith, grows (10 * a + (x - 48)) digits)
exceeds_from a (x ∷ digits) (suc i) d lt same large =
    exceeds_from (10 * a + (x - 48)) digits i d (omega arith) same large

-- where the first digits and the next one are too large, all of them are
pub exceeds : (digits : List ℕ) (i value d : ℕ) → i < length digits → get_or digits i 0 ≡ d →
    value ≡ number_of (take i digits) → 4294967295 < 10 * value + (d - 48) → 4294967295 < number_of digits
exceeds digits i value d lt same is large =
    exceeds_from 0 digits i d lt same (subst (λ v. 4294967295 < 10 * v + (d - 48)) is large)
