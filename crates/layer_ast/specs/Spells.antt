-- When a text spells a file.
use Rattle.std.specs.Prelude.{◌≡◌, ◌≢◌, ℕ, List, [], ◌∷◌, map, None, IfSome}
use Rattle.layer_ast.specs.declared.tokens.Lexed.{Lexed}
use Rattle.layer_ast.specs.Cut.{text_tokens}
use Rattle.layer_ast.specs.Depth.{IsWithin}
use Rattle.layer_ast.specs.Print.{file}
use Rattle.layer_ast.specs.Printed.{Printed}
use Rattle.layer_ast.specs.Tree.{FileTree}

-- the tokens are the printed ones, each at the place that the tree keeps of it, where it keeps one
unfoldable pub Fits : List Printed → List Lexed → Type 0
Fits [] [] = Unit {0}
Fits (p ∷ printed) (l ∷ lexed) = (l.token ≡ p.token) × IfSome p.at (λ at. l.at ≡ at) × Fits printed lexed
Fits _ _ = ⊥

-- the most bytes of a file
abbrev pub longest_file : ℕ
longest_file = 1048576

-- the file has a place in its stack
abbrev pub HasPlace : FileTree → Type 0
HasPlace f = f.places ≢ []

-- a text spells a file: it has no bad token, its tokens are the file's and stand where the file says, and its brackets
-- are nowhere deeper than 100
pub record Spells (text : List ℕ) (f : FileTree) : Type 0 where
  pub good : (text_tokens text).bad_at ≡ None
  pub fits : Fits (file f) (text_tokens text).tokens
  pub within : IsWithin 100 (map (λ l. l.token) (text_tokens text).tokens)
  pub placed : HasPlace f
