-- Bytes that digits spell, by blocks.
use Rattle.std.specs.Prelude.{◌≡◌, ◌+◌, ◌*◌, ◌++◌, ℕ, Bool, true, false, List, None, option_map, length, take, drop}
use Rattle.std.specs.Option.{unwrap_or}
use Rattle.script_mean.specs.Words.{hex_digit, hex_bytes}

-- the value of a digit, or 16
abbrev pub digit_value : ℕ → ℕ
digit_value byte = unwrap_or (hex_digit byte) 16

-- what writing the 16 bytes at a place answers. True: the old bytes before the place, followed by those that the digits
-- from twice the place on spell, are the new bytes before the block's end, followed by those that the digits after its
-- 32 spell; the ones spell bytes exactly if the others do. False: the digits from twice the place on spell no bytes. In
-- both cases the length stays.
abbrev pub WritesBlock : ℕ → (digits old new : List ℕ) → Bool → Type 0
WritesBlock at digits old new true = (length new ≡ length old) ×
    (option_map (λ more. take at old ++ more) (hex_bytes (drop (2 * at) digits))
    ≡ option_map (λ more. take (at + 16) new ++ more) (hex_bytes (drop (2 * (at + 16)) digits)))
WritesBlock at digits old new false = (length new ≡ length old) × (hex_bytes (drop (2 * at) digits) ≡ None)
