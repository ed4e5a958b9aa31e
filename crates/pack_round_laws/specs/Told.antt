-- The names of a stack can be told apart where they are written.
use Rattle.std.specs.Prelude.{◌≡◌, ℕ, true, false, List, [], ◌∷◌, map, bytes_eq, Some}
use Rattle.std.specs.List.{AllByRecursion, list_all}
use Rattle.layer_words.specs.Spelling.{is_word_byte}
use Rattle.layer_mean.specs.Headers.{header_none}
use Rattle.layer_mean.specs.Tree.{LayerTree}
use Rattle.bypass_mean.specs.Text.{numbers_called}
use Rattle.output_mean.specs.Judged.{Means}

-- Letters, digits and underscores alone.
abbrev pub IsWord : List ℕ → Type 0
IsWord word = list_all is_word_byte word ≡ true

-- No two of these are the same.
abbrev pub AreApart : List (List ℕ) → Type 0
AreApart [] = Unit {0}
AreApart (name ∷ names) = AllByRecursion (λ other. bytes_eq other name ≡ false) names × AreApart names

-- Names that can be told apart.
pub record AreTold (names : List (List ℕ)) : Type 0 where
  pub words : AllByRecursion IsWord names
  pub apart : AreApart names

-- Those of a layer: of its cells, of its headers with `none` among them, and of the numbers of each queue's rows.
pub record IsTold (layer : LayerTree) : Type 0 where
  pub name : IsWord layer.name
  pub cells : AreTold (map (λ cell. cell.name) layer.cells)
  pub headers : AreTold (map (λ header. header.name) (header_none ∷ layer.headers))
  pub rows : AllByRecursion (λ cell. AreTold (numbers_called (Some cell.form))) layer.cells

abbrev pub AreToldApart : List LayerTree → Type 0
AreToldApart stack = AllByRecursion IsTold stack

-- So it is of each stack that a file means.
abbrev pub StacksAreToldApart : Type 0
StacksAreToldApart = (file : List ℕ) (stack : List LayerTree) → Means file stack → AreToldApart stack
