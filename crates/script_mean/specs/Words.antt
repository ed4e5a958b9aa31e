-- The words on a line, and what a word can spell: a number, a rank or bytes.
use Rattle.std.specs.Prelude.{ℕ, ◌+◌, ◌*◌, ◌-◌, ◌==◌, ◌&&◌, ◌||◌, not, nat_le, nat_lt, Bool, false, List, [], ◌∷◌}
use Rattle.std.specs.Prelude.{length, codes, bytes_eq, if◌then◌else◌, Option, Some, None, option_and_then}
use Rattle.std.specs.List.{list_all, slice_split}
use Rattle.std.specs.Char.{is_ascii_digit}
use Rattle.std.specs.Str.Parse.{digits_value}

-- a word is the bytes between two spaces (32)
abbrev pub Word : Type 0
Word = List ℕ

-- the words on a line; two spaces side by side, and one at an end, have an empty word beside them
abbrev pub words_of : List ℕ → List Word
words_of line = slice_split (λ byte. byte == 32) line

-- decimal digits, of which the first is no 0 (48) unless it is alone
abbrev pub is_plain : Word → Bool
is_plain [] = false
is_plain (digit ∷ []) = is_ascii_digit digit
is_plain (digit ∷ more) = not (digit == 48) && list_all is_ascii_digit (digit ∷ more)

-- the value if it is in bounds
abbrev pub within : ℕ → ℕ → ℕ → Option ℕ
within low high value = if nat_le low value && nat_le value high then Some value else None

-- a number in plain decimal digits, within bounds
abbrev pub number_within : ℕ → ℕ → Word → Option ℕ
number_within low high word = if is_plain word then within low high (digits_value 10 word) else None

-- a number, at most 4294967295
abbrev pub number_of : Word → Option ℕ
number_of word = number_within 0 4294967295 word

-- the value of a hexadecimal digit, `0` to `9` or `a` to `f`
abbrev pub hex_digit : ℕ → Option ℕ
hex_digit byte =
    if nat_le 48 byte && nat_le byte 57 then Some (byte - 48)
    else if nat_le 97 byte && nat_le byte 102 then Some (byte - 87)
    else None

infixl 10 ◌>>=◌
-- the second step, if the first gave a value
abbrev pub ◌>>=◌ : {A B : Type 0} → Option A → (A → Option B) → Option B
step >>= next = option_and_then next step

-- the bytes that hexadecimal digits spell, two a byte, the high four bits first
abbrev pub hex_bytes : Word → Option (List ℕ)
hex_bytes [] = Some []
hex_bytes (one ∷ []) = None
hex_bytes (high ∷ low ∷ more) = do
  h ← hex_digit high
  l ← hex_digit low
  bytes ← hex_bytes more
  Some ((h * 16 + l) ∷ bytes)

-- the most digits of a body: two for each byte that a datagram has at most
abbrev pub most_digits : ℕ
most_digits = 131014

-- a body: `-` for no bytes, or the digits of some
abbrev pub body_of : Word → Option (List ℕ)
body_of word =
    if bytes_eq word (codes "-") then Some []
    else if length word == 0 || nat_lt most_digits (length word) then None
    else hex_bytes word
