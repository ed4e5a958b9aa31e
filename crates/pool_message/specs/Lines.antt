-- Lines, of which the first item stands by itself.
use Rattle.std.specs.Prelude.{ℕ, zero, suc, List, [], ◌∷◌}

-- The items of a line of n: none, or the first and those after it.
abbrev pub in_line : {A : Type 0} → ℕ → A → List A → List A
in_line zero first others = []
in_line (suc n) first others = first ∷ others
