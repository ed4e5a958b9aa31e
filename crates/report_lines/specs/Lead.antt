-- Pieces of text with a separator between them.
use Rattle.std.specs.Prelude.{ℕ, zero, suc, List, []}

-- What stands before the piece number k: nothing before the first.
abbrev pub lead : List ℕ → ℕ → List ℕ
lead separator zero = []
lead separator (suc k) = separator
