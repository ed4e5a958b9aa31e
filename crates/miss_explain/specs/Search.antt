-- The search for a decision by its number.
use Rattle.std.specs.Prelude.{◌≡◌, ℕ, zero, suc, Bool, true, false, List}
use Rattle.std.specs.List.{fold}
use Rattle.layer_words.specs.declared.sorts.Likely.{Likely}
use Rattle.layer_words.specs.declared.sorts.Likely.TheVariants as likely
use Rattle.layer_mean.specs.declared.run.Case.{Case}
use Rattle.layer_mean.specs.declared.run.Case.TheVariants.{First, Second}
use Rattle.miss_explain.specs.declared.search.Search.{Search}
use Rattle.miss_explain.specs.declared.search.Search.TheVariants.{Ahead, Found}

-- The line of one more decision is passed: it is the wanted one where none stands before it.
abbrev pub search_after : Search → ℕ → Search
search_after (Ahead zero) line = Found line
search_after (Ahead (suc left)) line = Ahead left
search_after (Found found) line = Found found

-- The search after the lines of some decisions.
unfoldable pub Passes : Search → List ℕ → Search → Type 0
Passes old lines new = new ≡ fold search_after old lines

-- Whether a condition is predicted to go into its first block in a case.
abbrev pub is_entered : Case → Likely → Bool
is_entered case likely.First = true
is_entered case likely.Else = false
is_entered First likely.Two = true
is_entered Second likely.Two = false
