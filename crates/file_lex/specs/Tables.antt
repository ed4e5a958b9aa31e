-- Tables of spellings, as the lexer keeps them.
use Rattle.std.specs.Prelude.{ℕ, suc, Bool, true, ◌&&◌, nat_eq, List, [], ◌∷◌, map, find, Option, None}
use Rattle.std.specs.Borrow.{Bor}
use Rattle.std.specs.Option.{option_and_then}
use Rattle.layer_words.specs.Spelling.{beside}

-- a table with its spellings as they are, and not as references to them
abbrev pub shown_table : {X : Type 0} → List (Bor (List ℕ) × X) → List (List ℕ × X)
shown_table table = map (λ entry. (entry.0.now, entry.1)) table

-- a grouped table in the same way
abbrev pub shown_groups : {X : Type 0} → List (ℕ × Bor (List (Bor (List ℕ) × X))) → List (ℕ × List (List ℕ × X))
shown_groups groups = map (λ group. (group.0, shown_table group.1.now)) groups

-- whether the bytes of groups follow one another, from this one on
abbrev pub are_in_row : {X : Type 0} → ℕ → List (ℕ × X) → Bool
are_in_row b [] = true
are_in_row b (group ∷ groups) = nat_eq group.0 b && are_in_row (suc b) groups

-- what stands beside a word in the group of its first byte
unfoldable pub beside_in_group : {X : Type 0} → List (ℕ × List (List ℕ × X)) → List ℕ → Option X
beside_in_group groups [] = None
beside_in_group groups (b ∷ bs) =
    option_and_then (λ group. beside group.1 (b ∷ bs)) (find (λ group. nat_eq b group.0) groups)
