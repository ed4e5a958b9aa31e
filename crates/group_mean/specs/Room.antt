-- Whether a group has room for its members.
use Rattle.std.specs.Prelude.{ℕ, ◌≤◌, List}
use Rattle.layer_mean.specs.Tree.{LayerTree}
use Rattle.stack_mean.specs.Acceptance.{rows_of, most_rows}

-- The rows of a member are few enough, in a group of n members.
abbrev pub HasRoom : List LayerTree → ℕ → Type 0
HasRoom stack members = rows_of stack members ≤ most_rows
