-- Decimal numbers, digit by digit.
use Rattle.std.proofs.Common.{◌≡◌, ℕ, zero, suc, [], ◌∷◌, ◌+◌, ◌*◌, ◌-◌, ◌<◌, ◌≤◌, true, List, length, take, get_or}
use Rattle.std.proofs.Common.{Some, None, arith}
use Rattle.std.specs.List.{list_all}
use Rattle.std.specs.Char.{is_ascii_digit}
use Rattle.std.specs.Str.Parse.{digits_value}
use Rattle.std.proofs.lemmas.Bool.{and_parts}
use Rattle.std.proofs.lemmas.Bool.Decides.{nat_tests}
use Rattle.std.proofs.lemmas.Int.Digits.{digits_value_more}
use Rattle.std.proofs.lemmas.Str.Parse.{digits_value-take-le}
use Rattle.script_mean.specs.Words.{within}
use Rattle.script_text.proofs.Digits.{IsDigit, digit_is, too_large}

-- each byte of digits is one
digit_at : (digits : List ℕ) (i : ℕ) → list_all is_ascii_digit digits ≡ true → i < length digits →
    IsDigit (get_or digits i 0)
digit_at [] i all inside = absurd (omega arith)
digit_at (byte ∷ more) zero all inside =
    digit_is byte (and_parts (is_ascii_digit byte) (list_all is_ascii_digit more) all).0
digit_at (byte ∷ more) (suc i) all inside =
    digit_at more i (and_parts (is_ascii_digit byte) (list_all is_ascii_digit more) all).1 (omega arith)

-- the value of one more digit
grown : (digits : List ℕ) (i : ℕ) → list_all is_ascii_digit digits ≡ true → i < length digits →
    digits_value 10 (take (i + 1) digits) ≡ digits_value 10 (take i digits) * 10 + (get_or digits i 0 - 48)
grown digits i all inside =
    let digit = digit_at digits i all inside in
    let more = digits_value_more 10 digits i inside in
    omega arith

within_none : (high value : ℕ) → None ≡ within 0 high value → high < value
within_none high value h = grind (arith, nat_tests)

within_some : (high value found : ℕ) → Some found ≡ within 0 high value → (found ≡ value) × (value ≤ high)
within_some high value found h = (grind (arith, nat_tests), grind (arith, nat_tests))

-- digits of a value above the highest have a greater value yet with those after them
pub above : (high value : ℕ) (digits : List ℕ) (i : ℕ) → list_all is_ascii_digit digits ≡ true → i < length digits →
    value ≡ digits_value 10 (take i digits) → None ≡ within 0 high (value * 10 + (get_or digits i 0 - 48)) →
    None ≡ within 0 high (digits_value 10 digits)
above high value digits i all inside front none =
    let more = grown digits i all inside in
    let over = within_none high _ none in
    let whole = digits_value-take-le 10 digits (i + 1) (omega arith) in
    too_large true 0 high (digits_value 10 digits) (omega arith)

pub further : (high value found : ℕ) (digits : List ℕ) (i : ℕ) → list_all is_ascii_digit digits ≡ true →
    i < length digits → value ≡ digits_value 10 (take i digits) →
    Some found ≡ within 0 high (value * 10 + (get_or digits i 0 - 48)) →
    (found ≡ digits_value 10 (take (i + 1) digits)) × (found ≤ high)
further high value found digits i all inside front some =
    let more = grown digits i all inside in
    let here = within_some high _ found some in
    (omega arith, omega arith)
