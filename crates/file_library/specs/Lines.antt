-- A text, line by line.
use Rattle.std.specs.Prelude.{ℕ, List, [], ◌∷◌, ◌++◌}

-- the lines one after the other, each ended by a line feed (10)
abbrev pub lines : List (List ℕ) → List ℕ
lines [] = []
lines (line ∷ following) = line ++ 10 ∷ lines following
