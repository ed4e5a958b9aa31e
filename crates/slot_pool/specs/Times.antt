-- How often a number stands in a list.
use Rattle.std.specs.Prelude.{ℕ, ◌+◌, List, [], ◌∷◌, cond, nat_eq}

-- 1 if the two numbers are equal, and else 0
abbrev pub hit : ℕ → ℕ → ℕ
hit i x = cond (nat_eq i x) 1 0

-- how often i stands in the list
abbrev pub times : ℕ → List ℕ → ℕ
times i [] = 0
times i (x ∷ xs) = hit i x + times i xs
