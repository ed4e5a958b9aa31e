-- Bytes that are parts, one after the other.
use Rattle.std.specs.Prelude.{◌≡◌, ℕ, zero, suc, ◌≤◌, List, [], ◌∷◌, slice_index_or}
use Rattle.std.specs.List.{slice_range}

-- The parts from a place on, of which each goes up to its end.
abbrev pub parts_from : (bytes : List ℕ) → ℕ → (ends : List ℕ) → List (List ℕ)
parts_from bytes from [] = []
parts_from bytes from (end ∷ ends) = slice_range bytes from end ∷ parts_from bytes end ends

-- No end is before the one before it, and the last is at `total` bytes.
abbrev pub EndAt : ℕ → ℕ → List ℕ → Type 0
EndAt total from [] = from ≡ total
EndAt total from (end ∷ ends) = (from ≤ end) × EndAt total end ends

-- Where part k begins: where the one before it ends.
abbrev pub start_of : ℕ → List ℕ → ℕ → ℕ
start_of from ends zero = from
start_of from ends (suc k) = slice_index_or ends k 0
