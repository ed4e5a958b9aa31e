-- When what was printed before something goes on before something else.
use Rattle.std.specs.Prelude.{ℕ, List, ◌++◌, map}
use Rattle.layer_ast.specs.declared.tokens.Lexed.{Lexed}
use Rattle.layer_ast.specs.declared.tokens.Token.{Token}
use Rattle.layer_ast.specs.Depth.{IsWithin}
use Rattle.layer_ast.specs.Printed.{Printed}
use Rattle.layer_ast.specs.Spells.{Fits}

-- the tokens of what was cut
abbrev pub tokens_in : List Lexed → List Token
tokens_in lexed = map (λ l. l.token) lexed

-- the tokens are the printed ones, at their places, and their brackets are nowhere deeper than there is room for
pub record Stands (room : ℕ) (printed : List Printed) (tokens : List Lexed) : Type 0 where
  pub fits : Fits printed tokens
  pub within : IsWithin room (tokens_in tokens)

-- tokens that stand as the first printed ones stand, with these tokens after them, as the second
pub record GoesOn (more : List Lexed) (room : ℕ) (k l : List Printed) : Type 0 where
  pub goes : (tokens : List Lexed) → Stands room k tokens → Stands room l (tokens ++ more)
