-- Outputs with the numbers of their packets.
use Rattle.std.specs.Prelude.{ℕ, Bool, true, false, List, [], ◌∷◌, Option}
use Rattle.run_mean.specs.Member.{Output}
use Rattle.run_mean.specs.Report.{number_following}

-- The number of the next packet after outputs.
abbrev pub number_after : ℕ → List (Output × Option ℕ) → ℕ
number_after k [] = k
number_after k (o ∷ outs) = number_after (number_following k o.0) outs

-- A line, where there is one.
abbrev pub line_if : Bool → List ℕ → List (List ℕ)
line_if false line = []
line_if true line = line ∷ []
