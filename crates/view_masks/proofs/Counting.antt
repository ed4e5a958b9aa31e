-- A view has as many ids as its mask has ones.
use Rattle.std.proofs.Common.{◌≡◌, ℕ, zero, suc, ◌+◌, ◌/◌, ◌%◌, ◌^◌, ◌<◌, Bool, true, false, refl, sym, ap, ◌∙◌, subst}
use Rattle.std.proofs.Common.{arith, add-one, List, ◌∷◌, length}
use Rattle.std.specs.Prelude.{◌==◌, cond}
use Rattle.std.specs.List.{filter, range_with_len}
use Rattle.std.specs.Int.{bit_at}
use Rattle.std.specs.Int.RustNames.{count_ones}
use Rattle.std.proofs.Math.Nat.{div-div-eq-div-mul, mod-lt, div-lt_iff_lt-mul, pow-suc}
use Rattle.std.proofs.lemmas.Bool.{eqb-true, eqb-false}
use Rattle.std.proofs.lemmas.Nat.{ones_cat, div-add-mod'}
use Rattle.msg_core.specs.View.{member_count}
use Rattle.msg_core.specs.declared.packet.View.{View}

-- a digit counts as itself
digit : (r : ℕ) → r < 2 → count_ones r ≡ r
unfolding count_ones
digit zero small = refl
digit (suc zero) small = refl
digit (suc (suc r)) small = absurd (omega arith)

-- the lowest digit, and the others
ones_step : (q : ℕ) → count_ones q ≡ count_ones (q / 2) + q % 2
ones_step q =
    ap count_ones (sym (div-add-mod' q 2)) ∙ ones_cat 1 (q / 2) (q % 2) (mod-lt q (omega arith)) ∙
    ap (λ r. count_ones (q / 2) + r)
    (digit (q % 2) (mod-lt q (omega arith)))

-- the ids below a bound whose bits are set, from one on
abbrev ids_from : ℕ → ℕ → ℕ → ℕ
ids_from mask at k = length (filter (λ id. bit_at mask id == 1) (range_with_len at k))

-- one more id counts as its digit
first_id : (d : ℕ) (set : Bool) (at : ℕ) (ids : List ℕ) → d < 2 → (d == 1) ≡ set → length (cond set (at ∷ ids) ids) ≡
    length ids + d
first_id d true at ids small is = let one = eqb-true d 1 is in omega arith
first_id d false at ids small is = let other = eqb-false d 1 is in omega arith

half : (q k : ℕ) → q < 2 ^ suc k → q / 2 < 2 ^ k
half q k small = (div-lt_iff_lt-mul (omega arith)).1 (subst (λ n. q < n) (pow-suc 2 k) small)

-- the ids from a place on are as many as the ones of the digits from there on
counted : (mask at k q : ℕ) → mask / 2 ^ at ≡ q → q < 2 ^ k → ids_from mask at k ≡ count_ones q
counted mask at zero q digits small = let none : q ≡ 0 = omega arith in sym (ap count_ones none ∙ digit 0 (omega arith))
counted mask at (suc k) q digits small =
    let above : mask / 2 ^ (at + 1) ≡ q / 2 = ap (λ n. mask / n) (ap (λ n. 2 ^ n) (add-one at) ∙ pow-suc 2 at)
    ∙ sym (div-div-eq-div-mul mask (2 ^ at) 2) ∙ ap (λ n. n / 2) digits in
    let small_digit : q % 2 < 2 = mod-lt q (omega arith) in
    first_id (mask / 2 ^ at % 2) (mask / 2 ^ at % 2 == 1) at
    (filter (λ id. bit_at mask id == 1) (range_with_len (at + 1) k))
    (subst (λ n. n % 2 < 2) (sym digits) small_digit) refl
    ∙ (λ x. counted mask (at + 1) k (q / 2) above (half q k small) x + digits x % 2)
    ∙ sym (ones_step q)

-- a view has as many members as its mask has ones
pub members_counted : (view : View) → view.mask < 4294967296 → count_ones view.mask ≡ member_count view
members_counted view small = sym (counted view.mask 0 32 view.mask (omega arith) small)
