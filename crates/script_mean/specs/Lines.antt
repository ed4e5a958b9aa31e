-- The lines of a text: each ends with a line feed (10), which the last may lack.
use Rattle.std.specs.Prelude.{ℕ, ◌+◌, ◌==◌, ◌||◌, not, nat_lt, Bool, true, List, [], ◌∷◌, length, count_by, filter}
use Rattle.std.specs.Prelude.{if◌then◌else◌}
use Rattle.std.specs.List.{after_last, enumerate_from, slice_split}

-- a line feed
abbrev pub is_line_feed : ℕ → Bool
is_line_feed byte = byte == 10

-- what stands before, between and after the line feeds
abbrev pub lines_of : List ℕ → List (List ℕ)
lines_of text = slice_split is_line_feed text

-- how many lines a text has: its line feeds, and one more where text follows the last of them
abbrev pub line_count : List ℕ → ℕ
line_count text = count_by is_line_feed text + (if length (after_last is_line_feed text) == 0 then 0 else 1)

-- how many bytes a script has at most
abbrev pub longest_script : ℕ
longest_script = 4194304

-- how many lines a script has at most
abbrev pub most_lines : ℕ
most_lines = 100000

-- more bytes or lines are too long, whatever they say
abbrev pub is_too_long : List ℕ → Bool
is_too_long text = nat_lt longest_script (length text) || nat_lt most_lines (line_count text)

-- an empty line, or one that begins with `#` (35), says nothing
abbrev pub says_nothing : List ℕ → Bool
says_nothing [] = true
says_nothing (byte ∷ rest) = byte == 35

-- the lines that say something, of lines with their numbers
abbrev pub speaking_lines : List (ℕ × List ℕ) → List (ℕ × List ℕ)
speaking_lines lines = filter (λ line. not (says_nothing line.1)) lines

-- the lines of a text that say something, each with its number; all lines are counted, from 1
abbrev pub said_lines : List ℕ → List (ℕ × List ℕ)
said_lines text = speaking_lines (enumerate_from 1 (lines_of text))
