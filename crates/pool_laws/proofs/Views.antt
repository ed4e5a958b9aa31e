-- A mask is a sum of powers, and has no more ones than these are.
use Rattle.std.proofs.Common.{◌≡◌, ◌∙◌, ℕ, zero, suc, ◌+◌, ◌*◌, ◌-◌, ◌/◌, ◌%◌, ◌^◌, ◌<◌, ◌≤◌, Bool, true, false, List}
use Rattle.std.proofs.Common.{[], ◌∷◌, length, Some, None, refl, sym, ap, subst, arith, add-one}
use Rattle.std.specs.Prelude.{◌==◌, cond, if◌then◌else◌}
use Rattle.std.specs.List.{filter, range_with_len, enumerate_from, sum_by}
use Rattle.std.specs.Int.{bit_at}
use Rattle.std.specs.Int.Count.{ones_in}
use Rattle.std.proofs.Math.Nat.{div-div-eq-div-mul, mod-lt, pow-suc}
use Rattle.std.proofs.lemmas.Bool.{eqb-true, eqb-false}
use Rattle.std.proofs.lemmas.Nat.{div-add-mod'}
use Rattle.std.proofs.lemmas.List.Sums.{sum_by-cons}
use Rattle.msg_core.specs.View.{member_count, ids, mask_of, last_ltime}
use Rattle.pool_laws.specs.Views.{ViewsShrink}

-- the ids below a bound whose bits are set, from one on
abbrev ids_from : ℕ → ℕ → ℕ → ℕ
ids_from mask at k = length (filter (λ id. bit_at mask id == 1) (range_with_len at k))

-- one more id counts as its digit
first_id : (d : ℕ) (set : Bool) (at : ℕ) (ids : List ℕ) → d < 2 → (d == 1) ≡ set → length (cond set (at ∷ ids) ids) ≡
    d + length ids
first_id d true at ids small is = let one = eqb-true d 1 is in omega arith
first_id d false at ids small is = let other = eqb-false d 1 is in omega arith

-- there are as many ids from a place on as ones among the digits from there on
counted : (mask at k q : ℕ) → mask / 2 ^ at ≡ q → ids_from mask at k ≡ ones_in k q
unfolding ones_in
counted mask at zero q digits = refl
counted mask at (suc k) q digits =
    let above : mask / 2 ^ (at + 1) ≡ q / 2 = ap (λ n. mask / n) (ap (λ n. 2 ^ n) (add-one at) ∙ pow-suc 2 at)
    ∙ sym (div-div-eq-div-mul mask (2 ^ at) 2) ∙ ap (λ n. n / 2) digits in
    first_id (mask / 2 ^ at % 2) (mask / 2 ^ at % 2 == 1) at
    (filter (λ id. bit_at mask id == 1) (range_with_len (at + 1) k))
    (mod-lt (mask / 2 ^ at) (omega arith)) refl
    ∙ (λ x. digits x % 2 + counted mask (at + 1) k (q / 2) above x)

-- a sum has no more ones than its parts, and one more for what is carried into it
ones_add : (k a b c : ℕ) → c ≤ 1 → ones_in k (a + b + c) ≤ ones_in k a + ones_in k b + c
unfolding ones_in
ones_add zero a b c few = omega arith
ones_add (suc k) a b c few =
    let n = a + b + c in
    let carry = n / 2 - (a / 2 + b / 2) in
    let x = div-add-mod' a 2 in let x_small : a % 2 < 2 = mod-lt a (omega arith) in
    let y = div-add-mod' b 2 in let y_small : b % 2 < 2 = mod-lt b (omega arith) in
    let z = div-add-mod' n 2 in let z_small : n % 2 < 2 = mod-lt n (omega arith) in
    let carried : n / 2 ≡ a / 2 + b / 2 + carry = omega arith in
    let rest : ones_in k (a / 2 + b / 2 + carry) ≤ ones_in k (a / 2) + ones_in k (b / 2) + carry =
    ones_add k (a / 2) (b / 2) carry (omega arith) in
    let same : ones_in k (n / 2) ≡ ones_in k (a / 2 + b / 2 + carry) = ap (ones_in k) carried in
    omega arith

ones_zero : (k : ℕ) → ones_in k 0 ≡ 0
unfolding ones_in
ones_zero zero = refl
ones_zero (suc k) = let rest = ones_zero k in omega arith

-- a power has one
ones_power : (k i : ℕ) → ones_in k (2 ^ i) ≤ 1
unfolding ones_in
ones_power zero i = omega arith
ones_power (suc k) zero = let none = ones_zero k in omega arith
ones_power (suc k) (suc i) =
    let q = 2 ^ suc i in
    let twice : q ≡ 2 ^ i * 2 = pow-suc 2 i in
    let z = div-add-mod' q 2 in let z_small : q % 2 < 2 = mod-lt q (omega arith) in
    let half : q / 2 ≡ 2 ^ i = omega arith in
    let same : ones_in k (q / 2) ≡ ones_in k (2 ^ i) = ap (ones_in k) half in
    let rest = ones_power k i in
    omega arith

abbrev bit_of : ℕ → ℕ × ℕ → ℕ
bit_of ranks x = if bit_at ranks x.0 == 1 then 2 ^ x.1 else 0

ones_bit : (k i : ℕ) (b : Bool) → ones_in k (if b then 2 ^ i else 0) ≤ 1
ones_bit k i true = ones_power k i
ones_bit k i false = let none = ones_zero k in omega arith

ones_sum : (k ranks n : ℕ) (xs : List ℕ) → ones_in k (sum_by (bit_of ranks) (enumerate_from n xs)) ≤ length xs
ones_sum k ranks n [] = let none = ones_zero k in omega arith
ones_sum k ranks n (x ∷ xs) =
    let first : ones_in k (bit_of ranks (n, x)) ≤ 1 = ones_bit k x (bit_at ranks n == 1) in
    let others = sum_by (bit_of ranks) (enumerate_from (n + 1) xs) in
    let rest : ones_in k others ≤ length xs = ones_sum k ranks (n + 1) xs in
    let both : ones_in k (bit_of ranks (n, x) + others + 0) ≤ ones_in k (bit_of ranks (n, x)) + ones_in k others + 0 =
    ones_add k (bit_of ranks (n, x)) others 0 (omega arith) in
    let split : sum_by (bit_of ranks) (enumerate_from n (x ∷ xs)) ≡ bit_of ranks (n, x) + others + 0 =
    omega (arith, sum_by-cons (bit_of ranks) (n, x) (enumerate_from (n + 1) xs)) in
    let same : ones_in k (sum_by (bit_of ranks) (enumerate_from n (x ∷ xs))) ≡ ones_in
    k (bit_of ranks (n, x) + others + 0) = ap (ones_in k) split in
    omega arith

pub views_shrink : ViewsShrink
views_shrink view next ranks is = go (view.ltime == last_ltime) is where
  few : member_count (record { ltime = view.ltime + 1; mask = mask_of view ranks }) ≤ member_count view
  few =
      let all : member_count (record { ltime = view.ltime + 1; mask = mask_of view ranks }) ≡ ones_in
      32 (mask_of view ranks) =
      counted (mask_of view ranks) 0 32 (mask_of view ranks) (omega arith) in
      let ones : ones_in 32 (mask_of view ranks) ≤ length (ids view) = ones_sum 32 ranks 0 (ids view) in
      omega arith

  go : (b : Bool) → (if b then None else Some record { ltime = view.ltime + 1; mask = mask_of view ranks }) ≡
      Some next →
      member_count next ≤ member_count view
  go true none = absurd (cc none)
  go false some =
      let e : record { ltime = view.ltime + 1; mask = mask_of view ranks } ≡ next = cc some in
      subst (λ v. member_count v ≤ member_count view) e few
