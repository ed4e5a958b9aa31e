-- The lines of a report: each ends with a line feed (10), which the last may lack.
use Rattle.std.specs.Prelude.{ℕ, ◌-◌, ◌==◌, nat_lt, Bool, List, [], length, slice_index, take, if◌then◌else◌}
use Rattle.std.specs.List.{slice_split}

-- more than 67,108,864 bytes are too many, whatever they say
abbrev pub is_too_large : List ℕ → Bool
is_too_large text = nat_lt 67108864 (length text)

-- a text without its last byte, if that is a line feed
abbrev pub unended : List ℕ → List ℕ
unended text = if slice_index text (length text - 1) == 10 then take (length text - 1) text else text

-- the lines of a text; a text of no bytes has none
abbrev pub lines_of : List ℕ → List (List ℕ)
lines_of [] = []
lines_of text = slice_split (λ byte. byte == 10) (unended text)
