-- The syntax has one reading.
use Rattle.std.specs.Prelude.{◌≡◌, ℕ, List}
use Rattle.layer_ast.specs.Print.{file}
use Rattle.layer_ast.specs.Spells.{Spells}
use Rattle.layer_ast.specs.Tree.{FileTree}

-- a text spells at most one file with given layers of the library, which it doesn't spell
abbrev pub SpelledOnce : Type 0
SpelledOnce = (text : List ℕ) (s t : FileTree) → s.library ≡ t.library → Spells text s → Spells text t → s ≡ t

-- two files that are printed alike, with the same places, are one file where the library brings them the same layers
abbrev pub PrintedOnce : Type 0
PrintedOnce = (s t : FileTree) → s.library ≡ t.library → file s ≡ file t → s ≡ t
