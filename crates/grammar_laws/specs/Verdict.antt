-- What a text is: a file, or where and why it stops being the beginning of one.
use Rattle.std.specs.Prelude.{◌≡◌, ℕ, List}
use Rattle.layer_words.specs.declared.places.At.{At}
use Rattle.layer_ast.specs.Spells.{Spells}
use Rattle.layer_ast.specs.Stops.{StopsBad, StopsInside, StopsAtEnd}
use Rattle.layer_ast.specs.Tree.{FileTree}

-- a file; or no file, for a bad token, for a token that no file goes on with, or for the text's end
pub data Verdict : Type 0 where
  a_file : Verdict
  bad : (at : At) → Verdict
  inside : (at : At) → Verdict
  at_end : (at : At) → Verdict

-- the text spells a file
pub record SpellsSome (text : List ℕ) : Type 0 where
  pub file : FileTree
  pub spelled : Spells text file

-- the verdict holds of the text
abbrev pub Holds : List ℕ → Verdict → Type 0
Holds text a_file = SpellsSome text
Holds text (bad at) = StopsBad text at
Holds text (inside at) = StopsInside text at
Holds text (at_end at) = StopsAtEnd text at

-- a verdict holds of the text, and no other
pub record IsDecided (text : List ℕ) : Type 0 where
  pub verdict : Verdict
  pub holds : Holds text verdict
  pub only : (other : Verdict) → Holds text other → other ≡ verdict

-- of each text one verdict holds: it spells a file, or it stops being the beginning of one at one place and for one
-- cause
abbrev pub EachDecided : Type 0
EachDecided = (text : List ℕ) → IsDecided text
