-- Decimal digits, one by one.
use Rattle.std.proofs.Common.{◌≡◌, ℕ, ◌+◌, ◌<◌, ◌≤◌, Bool, true, false, refl, arith, None}
use Rattle.std.specs.Prelude.{if◌then◌else◌}
use Rattle.std.specs.Char.{is_ascii_digit, digit_value}
use Rattle.std.proofs.lemmas.Bool.Decides.{nat_tests}
use Rattle.std.proofs.lemmas.Str.{digit_value_digit}
use Rattle.script_mean.specs.Words.{within}

-- a digit and its value
pub record IsDigit (byte : ℕ) : Type 0 where
  pub least : 48 ≤ byte
  pub most : byte ≤ 57
  pub value : digit_value byte + 48 ≡ byte

least : (byte : ℕ) → is_ascii_digit byte ≡ true → 48 ≤ byte
least byte h = grind (arith, nat_tests)

most : (byte : ℕ) → is_ascii_digit byte ≡ true → byte ≤ 57
most byte h = grind (arith, nat_tests)

-- what is known of a digit
pub digit_is : (byte : ℕ) → is_ascii_digit byte ≡ true → IsDigit byte
digit_is byte h = record
    { least = least byte h; most = most byte h; value = digit_value_digit byte (least byte h, most byte h) }

-- a value above the bounds is out of them
pub too_large : (all : Bool) (low high value : ℕ) → high < value → None ≡ (if all then within low high value else None)
too_large true low high value above = grind (arith, nat_tests)
too_large false low high value above = refl
