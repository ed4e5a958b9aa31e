-- Words, numbers and bodies read back.
use Rattle.std.proofs.Common.{◌≡◌, ℕ, zero, suc, ◌+◌, ◌*◌, ◌/◌, ◌%◌, ◌^◌, ◌<◌, ◌≤◌, Bool, true, false, List, [], ◌∷◌}
use Rattle.std.proofs.Common.{◌++◌}
use Rattle.std.proofs.Common.{length, get_or, slice_index, Option, Some, None, refl, sym, ap, ◌∙◌, arith, ◌⊎◌, inl, inr}
use Rattle.std.specs.Prelude.{◌&&◌, ◌||◌, ◌==◌, not, nat_lt, All, codes, bytes_eq, unwrap_or}
use Rattle.std.specs.List.{list_all, join_by}
use Rattle.std.proofs.lemmas.List.{append-nil}
use Rattle.std.specs.Char.{is_ascii_digit}
use Rattle.std.specs.Fmt.{decimal}
use Rattle.std.specs.Str.{all_ascii_digits}
use Rattle.std.proofs.lemmas.Bool.{and_parts, cases_lt, eqb-true}
use Rattle.std.proofs.lemmas.Bool.Decides.{nat_tests}
use Rattle.std.proofs.lemmas.Fmt.{decimal_nonempty, first_decimal, decimal_digit, digits_decimal, digits_value-decimal}
use Rattle.std.proofs.lemmas.Str.Parse.{numerals_by_value, tells_all_ascii_digits}
use Rattle.std.proofs.lemmas.List.Splits.{slice_split_at, slice_split_none}
use Rattle.std.proofs.lemmas.List.Elements.{All-nil, All-cons, All-head, All-tail}
use Rattle.hex.specs.Hex.{encode_with, lower_digits}
use Rattle.hex.proofs.HexLemmas.{length-encode_with}
use Rattle.script_mean.specs.Words.{Word, words_of, is_plain, number_of, within, number_within, hex_digit, hex_bytes}
use Rattle.script_mean.specs.Words.{body_of}
use Rattle.script_mean.specs.EventText.{hex_text, IsSayable, IsBody}

-- ---- words and spaces

-- a word without a space
abbrev pub IsWord : Word → Type 0
IsWord word = All (λ byte. (byte == 32) ≡ false) word

-- words without a space, joined by spaces, are the words of the line
pub words_back : (first : Word) (more : List Word) → IsWord first → All IsWord more →
    words_of (join_by (λ word. word) (codes " ") (first ∷ more)) ≡ first ∷ more
words_back first [] word none =
    ap words_of (append-nil first) ∙ slice_split_none _ first word
words_back first (next ∷ more) word words =
    slice_split_at _ first 32 (join_by (λ w. w) (codes " ") (next ∷ more)) word refl ∙
    ap (λ (ws : List Word). first ∷ ws)
    (words_back next more (All-head IsWord next more words) (All-tail IsWord next more words))

-- the first word of a line, whatever follows
pub first_word : (first : Word) (more : List ℕ) → IsWord first →
    words_of (first ++ 32 ∷ more) ≡ first ∷ words_of more
first_word first more word = slice_split_at _ first 32 more word refl

-- ---- numbers

abbrev AreDigits : List ℕ → Type 0
AreDigits ds = list_all is_ascii_digit ds ≡ true

digits_same : (ds : List ℕ) → all_ascii_digits ds ≡ list_all is_ascii_digit ds
digits_same [] = refl
digits_same (d ∷ ds) = ap (λ b. is_ascii_digit d && b) (digits_same ds)

pub decimal_digits : (n : ℕ) → n < 2 ^ 64 → AreDigits (decimal n)
decimal_digits n small = sym (digits_same (decimal n)) ∙ digits_decimal (numerals_by_value _ tells_all_ascii_digits) n
    small

plain : (ds : List ℕ) → AreDigits ds → 0 < length ds → (length ds ≡ 1) ⊎ (48 < get_or ds 0 0) → is_plain ds ≡ true
plain [] all some first = absurd (omega arith)
plain (d ∷ []) all some first = (and_parts (is_ascii_digit d) _ all).0
plain (d ∷ e ∷ more) all some (inl one) = absurd (omega arith)
plain (d ∷ e ∷ more) all some (inr large) =
    let other : (d == 48) ≡ false = grind (arith, nat_tests) in
    rw other all

leads : (n : ℕ) → n < 2 ^ 64 → (length (decimal n) ≡ 1) ⊎ (48 < get_or (decimal n) 0 0)
leads zero small = inl (ap length (decimal_digit 0 (omega arith)))
leads (suc n) small = inr (first_decimal (suc n) (omega arith) small)

decimal_plain : (n : ℕ) → n < 2 ^ 64 → is_plain (decimal n) ≡ true
decimal_plain n small = plain (decimal n) (decimal_digits n small) (decimal_nonempty n small) (leads n small)

inside : (low high n : ℕ) → low ≤ n → n ≤ high → within low high n ≡ Some n
inside low high n least most = grind (arith, nat_tests)

-- a number is read back
pub number_back : (low high n : ℕ) → low ≤ n → n ≤ high → n < 2 ^ 64 → number_within low high (decimal n) ≡ Some n
number_back low high n least most small =
    rw (decimal_plain n small, digits_value-decimal (numerals_by_value _ tells_all_ascii_digits) n small)
    (inside low high n least most)

pub said_number : (n : ℕ) → IsSayable n → number_of (decimal n) ≡ Some n
said_number n most = number_back 0 4294967295 n (omega arith) most (omega arith)

-- a digit is no space
digit_no_space : (d : ℕ) → is_ascii_digit d ≡ true → (d == 32) ≡ false
digit_no_space d digit = grind (arith, nat_tests)

pub digits_word : (ds : List ℕ) → AreDigits ds → IsWord ds
digits_word [] all = All-nil (λ byte. (byte == 32) ≡ false)
digits_word (d ∷ ds) all =
    let parts = and_parts (is_ascii_digit d) (list_all is_ascii_digit ds) all in
    All-cons (λ byte. (byte == 32) ≡ false) d ds (digit_no_space d parts.0) (digits_word ds parts.1)

pub number_word : (n : ℕ) → IsSayable n → IsWord (decimal n)
number_word n most = digits_word (decimal n) (decimal_digits n (omega arith))

-- ---- bodies

-- what the sixteen digits spell, which computes
abbrev spells_itself : ℕ → Bool
spells_itself d = (unwrap_or (hex_digit (slice_index lower_digits d)) 99 == d) && not (slice_index lower_digits d == 32)

abbrev all_spell : ℕ → Bool
all_spell zero = true
all_spell (suc n) = spells_itself n && all_spell n

spells_at : (n k : ℕ) → all_spell n ≡ true → k < n → spells_itself k ≡ true
spells_at zero k all below = absurd (omega arith)
spells_at (suc n) k all below =
    let parts = and_parts (spells_itself n) (all_spell n) all in
    elim (cases_lt k n) [
      | inl less ↦ spells_at n k parts.1 less
      | inr top ↦ let e : k ≡ n = omega arith in rw e parts.0
    ]

-- what a digit spells, and that it is no space
record IsDigit (d : ℕ) : Type 0 where
  spelled : hex_digit (slice_index lower_digits d) ≡ Some d
  word : (slice_index lower_digits d == 32) ≡ false

some_from : (o : Option ℕ) (d : ℕ) → d < 16 → unwrap_or o 99 ≡ d → o ≡ Some d
some_from (Some v) d below e = ap Some e
some_from None d below e = absurd (omega arith)

no_space : (b : Bool) → not b ≡ true → b ≡ false
no_space true e = absurd cc
no_space false e = refl

digit_at : (d : ℕ) → d < 16 → IsDigit d
digit_at d below =
    let parts = and_parts (unwrap_or (hex_digit (slice_index lower_digits d)) 99 == d)
    (not (slice_index lower_digits d == 32)) (spells_at 16 d refl below) in
    record {
      spelled = some_from (hex_digit (slice_index lower_digits d)) d below (eqb-true _ _ parts.0);
      word = no_space (slice_index lower_digits d == 32) parts.1;
    }

abbrev AreBytes : List ℕ → Type 0
AreBytes bytes = All (λ byte. byte < 256) bytes

hex_back : (bytes : List ℕ) → AreBytes bytes → hex_bytes (encode_with lower_digits bytes) ≡ Some bytes
unfolding encode_with
hex_back [] all = refl
hex_back (b ∷ rest) all =
    let below : b < 256 = All-head (λ byte. byte < 256) b rest all in
    let high = digit_at (b / 16) (omega arith) in
    let low = digit_at (b % 16) (omega arith) in
    let whole : b / 16 * 16 + b % 16 ≡ b = omega arith in
    rw (high.spelled, low.spelled, hex_back rest (All-tail (λ byte. byte < 256) b rest all))
    (ap (λ (v : ℕ). Some (v ∷ rest)) whole)

hex_word : (bytes : List ℕ) → AreBytes bytes → IsWord (encode_with lower_digits bytes)
unfolding encode_with
hex_word [] all = All-nil (λ byte. (byte == 32) ≡ false)
hex_word (b ∷ rest) all =
    let below : b < 256 = All-head (λ byte. byte < 256) b rest all in
    All-cons (λ byte. (byte == 32) ≡ false) (slice_index lower_digits (b / 16))
    (slice_index lower_digits (b % 16) ∷ encode_with lower_digits rest) (digit_at (b / 16) (omega arith)).word
    (All-cons (λ byte. (byte == 32) ≡ false) (slice_index lower_digits (b % 16)) (encode_with lower_digits rest)
    (digit_at (b % 16) (omega arith)).word
    (hex_word rest (All-tail (λ byte. byte < 256) b rest all)))

pub body_word : (body : List ℕ) → IsBody body → IsWord (hex_text body)
body_word [] is = All-cons (λ byte. (byte == 32) ≡ false) 45 [] refl (All-nil (λ byte. (byte == 32) ≡ false))
body_word (b ∷ rest) is = hex_word (b ∷ rest) is.bytes

and_false : (b : Bool) → (b && false) ≡ false
and_false true = refl
and_false false = refl

-- hexadecimal text of two digits or more is no dash
no_dash : (b : ℕ) (rest : List ℕ) → bytes_eq (encode_with lower_digits (b ∷ rest)) (codes "-") ≡ false
unfolding encode_with
no_dash b rest = and_false (slice_index lower_digits (b / 16) == 45)

in_length : (n : ℕ) → 0 < n → n ≤ 131014 → ((n == 0) || nat_lt 131014 n) ≡ false
in_length n some most = grind (arith, nat_tests)

-- a body is read back
pub body_back : (body : List ℕ) → IsBody body → body_of (hex_text body) ≡ Some body
body_back [] is = refl
body_back (b ∷ rest) is =
    let size = length-encode_with lower_digits (b ∷ rest) in
    let most = is.most in
    rw (
      no_dash b rest,
      in_length (length (encode_with lower_digits (b ∷ rest))) (omega (arith, size))
          (omega (arith, size, most)),
    ) (hex_back (b ∷ rest) is.bytes)

-- a word that a test finds without a space, as any constant
pub verb : (word : Word) → list_all (λ byte. not (byte == 32)) word ≡ true → IsWord word
verb [] all = All-nil (λ byte. (byte == 32) ≡ false)
verb (b ∷ more) all =
    let parts = and_parts (not (b == 32)) (list_all (λ byte. not (byte == 32)) more) all in
    All-cons (λ byte. (byte == 32) ≡ false) b more (no_space (b == 32) parts.0) (verb more parts.1)

pub rank_back : (n : ℕ) → n ≤ 31 → number_within 0 31 (decimal n) ≡ Some n
rank_back n most = number_back 0 31 n (omega arith) most (omega arith)
