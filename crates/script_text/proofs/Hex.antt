-- Lower case hexadecimal digits, two by two.
use Rattle.std.proofs.Common.{◌≡◌, ◌≢◌, ℕ, ◌+◌, ◌*◌, ◌%◌, ◌<◌, ◌≤◌, Bool, true, false, List, [], ◌∷◌, ◌++◌, length}
use Rattle.std.proofs.Common.{take, drop, slice_index, slice_set, Option, Some, None, refl, sym, ap, ◌∙◌, arith}
use Rattle.std.specs.Prelude.{max, nat_lt, IfSome, option_map}
use Rattle.std.specs.Option.{unwrap_or}
use Rattle.std.proofs.lemmas.Bool.Decides.{nat_tests}
use Rattle.std.proofs.lemmas.List.{append_assoc, drop_more, take_more_set}
use Rattle.script_mean.specs.Words.{◌>>=◌, hex_digit, hex_bytes}

-- the value of a digit as the code has it
abbrev pub value : ℕ → ℕ
value byte = unwrap_or (hex_digit byte) 16

-- the bytes so far and those after them, if all digits so far are some
abbrev pub joined : Bool → List ℕ → Option (List ℕ) → Option (List ℕ)
joined true front following = option_map (λ bytes. front ++ bytes) following
joined false front following = None

-- a value is below sixteen
pub bounded : (byte : ℕ) → IfSome (hex_digit byte) (λ value. value < 16)
bounded byte = grind (arith, nat_tests)

not_all : (all : Bool) (front : List ℕ) → joined all front None ≡ None
not_all true front = refl
not_all false front = refl

one_more : (all : Bool) (front : List ℕ) (byte : ℕ) (rest : Option (List ℕ)) →
    joined all front (rest >>= λ bytes. Some (byte ∷ bytes)) ≡ joined all (front ++ byte ∷ []) rest
one_more true front byte None = refl
one_more true front byte (Some bytes) = ap Some (sym (append_assoc front (byte ∷ []) bytes))
one_more false front byte rest = refl

most_above : (most high low : ℕ) → 16 ≤ max high low → nat_lt (max most (max high low)) 16 ≡ false
most_above most high low above = grind (arith, nat_tests)

most_within : (most high low : ℕ) → high < 16 → low < 16 → nat_lt (max most (max high low)) 16 ≡ nat_lt most 16
most_within most high low first second = grind (arith, nat_tests)

pair : (most : ℕ) (front : List ℕ) (high low : Option ℕ) (rest : Option (List ℕ)) → IfSome high (λ value. value < 16) →
    IfSome low (λ value. value < 16) →
    joined (nat_lt most 16) front (high >>= λ h. low >>= λ l. rest >>= λ bytes. Some ((h * 16 + l) ∷ bytes)) ≡
    joined (nat_lt (max most (max (unwrap_or high 16) (unwrap_or low 16))) 16)
    (front ++ ((unwrap_or high 16 * 16 % 256 + unwrap_or low 16) % 256) ∷ []) rest
pair most front None low rest first second = not_all (nat_lt most 16) front ∙
    rw (most_above most 16 (unwrap_or low 16) (omega arith)) refl
pair most front (Some h) None rest first second = not_all (nat_lt most 16) front ∙
    rw (most_above most h 16 (omega arith)) refl
pair most front (Some h) (Some l) rest first second =
    let byte : h * 16 + l ≡ (h * 16 % 256 + l) % 256 = omega (arith, first, second) in
    rw (most_within most h l first second, ← byte) (one_more (nat_lt most 16) front (h * 16 + l) rest)

-- one byte more is written
pub goes_on : (digits bytes : List ℕ) (i most high low above next : ℕ) (whole : Option (List ℕ)) → i < length bytes →
    length digits ≡ 2 * length bytes → high ≡ value (slice_index digits (2 * i)) →
    low ≡ value (slice_index digits (2 * i + 1)) → above ≡ max high low → next ≡ max most above →
    whole ≡ joined (nat_lt most 16) (take i bytes) (hex_bytes (drop (2 * i) digits)) →
    whole ≡ joined (nat_lt next 16) (take (i + 1) (slice_set bytes i ((high * 16 % 256 + low) % 256)))
    (hex_bytes (drop (2 * (i + 1)) digits))
goes_on digits bytes i most high low above next whole within double high_is low_is above_is next_is so_far =
    let one = drop_more digits (2 * i) 0 (omega arith) in
    let two = drop_more digits (2 * i + 1) 0 (omega arith) in
    let following : 2 * (i + 1) ≡ 2 * i + 1 + 1 = omega arith in
    let a = slice_index digits (2 * i) in
    let b = slice_index digits (2 * i + 1) in
    let step = pair most (take i bytes) (hex_digit a) (hex_digit b) (hex_bytes (drop (2 * i + 1 + 1) digits))
    (bounded a) (bounded b) in
    rw (one, two) at so_far ∙
    rw (
      next_is,
      above_is,
      high_is,
      low_is,
      following,
      take_more_set bytes i ((value a * 16 % 256 + value b) % 256) within,
    ) step

-- no bytes are spelled by an odd number of digits
pub odd_none : (word : List ℕ) → length word % 2 ≢ 0 → hex_bytes word ≡ None
odd_none [] odd = absurd (odd (omega arith))
odd_none (one ∷ []) odd = refl
odd_none (high ∷ low ∷ more) odd = nothing_after (hex_digit high) (hex_digit low) (hex_bytes more)
    (odd_none more (λ even. odd (omega arith)))
  where
    nothing_after : (h l : Option ℕ) (rest : Option (List ℕ)) → rest ≡ None →
        (h >>= λ x. l >>= λ y. rest >>= λ bytes. Some ((x * 16 + y) ∷ bytes)) ≡ None
    nothing_after None l rest e = refl
    nothing_after (Some x) None rest e = refl
    nothing_after (Some x) (Some y) rest e = rw e refl
