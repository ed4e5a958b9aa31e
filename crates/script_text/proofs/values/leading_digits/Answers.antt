use Rattle.std.proofs.Common.{◌≡◌, ◌+◌, ◌*◌, ◌^◌, ◌≤◌, true, get_or, suc, sym, refl, ap, ◌∙◌, arith, rules, ℕ}
use Rattle.std.specs.Char.{is_ascii_digit}
use Rattle.std.proofs.Math.Nat.{pow-le-pow_right, pow-suc}
use Rattle.std.proofs.lemmas.Int.Digits.{digits_value_more}
use Rattle.std.proofs.lemmas.List.Folds.{list_all_more}
use Rattle.script_text.proofs.Digits.{digit_is}
use Rattle.script_text.proofs.values.leading_digits.Goals as goal

-- one place more
next_power : (place : ℕ) → 10 ^ (place + 1) ≡ 10 ^ place * 10
next_power place = ap (λ n. 10 ^ n) (let one : place + 1 ≡ suc place = omega arith in one) ∙ pow-suc 10 place

pub loop-place-preserved : goal.loop-place-preserved
loop-place-preserved c =
    let i = c.loop-place.place in
    let text = c.args.text.now in
    let is_digit : is_ascii_digit (get_or text i 0) ≡ true = sym c.if-not-is_ascii_digit.ensures.value in
    let digit = digit_is (get_or text i 0) is_digit in
    let more = digits_value_more 10 text i (omega arith) in
    let power = next_power i in (
      (
        rw (list_all_more is_ascii_digit text i 0 (omega arith), c.loop-place.invariant.0.0, is_digit) refl,
        omega arith,
      ),
      omega (arith, power),
    )

pub overflow_mul-value : goal.overflow_mul-value
overflow_mul-value c =
    let cap : 10 ^ c.loop-place.place ≤ 10 ^ 8 =
    pow-le-pow_right (omega arith) (let short : c.loop-place.place ≤ 8 = omega arith in short) in search rules

pub overflow_add-value : goal.overflow_add-value
overflow_add-value c =
    let i = c.loop-place.place in
    let is_digit : is_ascii_digit (get_or c.args.text.now i 0) ≡ true = sym c.if-not-is_ascii_digit.ensures.value in
    let digit = digit_is (get_or c.args.text.now i 0) is_digit in
    let cap : 10 ^ i ≤ 10 ^ 8 =
    pow-le-pow_right (omega arith) (let short : i ≤ 8 = omega arith in short) in search rules
