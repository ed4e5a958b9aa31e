-- The rest of a text that is cut at a byte.
use Rattle.std.specs.Prelude.{ℕ, ◌==◌, List, [], Option, Some, None}
use Rattle.std.specs.List.{slice_split}
use denote.Ref.{Bor}

-- the parts of the rest, which is cut at a byte; no rest has no part, and an empty one has an empty part
abbrev pub parts_after : ℕ → Option (Bor (List ℕ)) → List (List ℕ)
parts_after at None = []
parts_after at (Some rest) = slice_split (λ byte. byte == at) rest.now
