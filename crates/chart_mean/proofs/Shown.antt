-- Laws of marks, and of text in a picture.
use Rattle.std.proofs.Common.{◌≡◌, refl, ap, ℕ, suc, ◌+◌, Bool, true, false, List, [], ◌∷◌, ◌++◌, length}
use Rattle.std.specs.Prelude.{◌==◌, ◌&&◌, nat_le, codes, if◌then◌else◌}
use Rattle.chart_mean.specs.Escape.{escaped, escaped_byte, is_escaped}
use Rattle.chart_mean.specs.Mark.{Manner, marks}
use Rattle.script_mean.specs.Words.{Word}
use Rattle.chart_mean.specs.Place.{Line, first_says, lines_from, x_next}

pub as_many_lines : (hide : Word) (first place x : ℕ) (texts : List (List ℕ)) →
    length (lines_from hide first place x texts) ≡ length texts
as_many_lines hide first place x [] = refl
as_many_lines hide first place x (text ∷ texts) =
    ap suc (as_many_lines hide first (place + 1) (x_next hide x text (first_says texts)) texts)

pub as_many_marks : (manner : Manner) (before lines : List Line) →
    length (marks manner before lines) ≡ length lines
as_many_marks manner before [] = refl
as_many_marks manner before (line ∷ lines) = ap suc (as_many_marks manner (before ++ line ∷ []) lines)

-- the spelling of a byte before escaped text is escaped, by the tests that tell how it is spelled
byte_escaped : (byte : ℕ) (rest : List ℕ) → is_escaped rest ≡ true → is_escaped (escaped_byte byte ++ rest) ≡ true
byte_escaped byte rest following = amp (byte == 38) refl where
  plain : (p : Bool) → (nat_le 32 byte && nat_le byte 126) ≡ p → (byte == 38) ≡ false → (byte == 60) ≡ false →
      (byte == 62) ≡ false → (byte == 34) ≡ false →
      is_escaped ((if p then byte ∷ [] else codes "&#65533;") ++ rest) ≡ true
  plain true is a l g q = rw (is, a, l, g, q) following
  plain false is a l g q = following

  quot : (t : Bool) → (byte == 34) ≡ t → (byte == 38) ≡ false → (byte == 60) ≡ false → (byte == 62) ≡ false →
      is_escaped ((if t then codes "&quot;" else if nat_le 32 byte && nat_le byte 126 then byte ∷
      [] else codes "&#65533;") ++ rest) ≡ true
  quot true is a l g = following
  quot false is a l g = plain (nat_le 32 byte && nat_le byte 126) refl a l g is

  gt : (t : Bool) → (byte == 62) ≡ t → (byte == 38) ≡ false → (byte == 60) ≡ false →
      is_escaped ((if t then codes "&gt;" else if byte == 34 then codes "&quot;" else if nat_le 32 byte &&
      nat_le byte 126 then byte ∷ [] else codes "&#65533;") ++ rest) ≡ true
  gt true is a l = following
  gt false is a l = quot (byte == 34) refl a l is

  lt : (t : Bool) → (byte == 60) ≡ t → (byte == 38) ≡ false →
      is_escaped ((if t then codes "&lt;" else if byte == 62 then codes "&gt;" else if byte ==
      34 then codes "&quot;" else if nat_le 32 byte && nat_le byte 126 then byte ∷ [] else codes "&#65533;") ++
      rest) ≡ true
  lt true is a = following
  lt false is a = gt (byte == 62) refl a is

  amp : (t : Bool) → (byte == 38) ≡ t →
      is_escaped ((if t then codes "&amp;" else if byte == 60 then codes "&lt;" else if byte ==
      62 then codes "&gt;" else if byte == 34 then codes "&quot;" else if nat_le 32 byte &&
      nat_le byte 126 then byte ∷ [] else codes "&#65533;") ++ rest) ≡ true
  amp true is = following
  amp false is = lt (byte == 60) refl is

pub all_escaped : (text : List ℕ) → is_escaped (escaped text) ≡ true
all_escaped [] = refl
all_escaped (byte ∷ text) = byte_escaped byte (escaped text) (all_escaped text)
