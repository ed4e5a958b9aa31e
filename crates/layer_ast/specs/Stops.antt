-- Where a text that spells no file stops being the beginning of one.
use Rattle.std.specs.Prelude.{◌≡◌, ℕ, ◌+◌, List, ◌++◌, map, take, fold, slice_get, Some, None}
use Rattle.layer_words.specs.declared.places.At.{At}
use Rattle.layer_ast.specs.declared.tokens.Lexed.{Lexed}
use Rattle.layer_ast.specs.declared.tokens.Token.{Token}
use Rattle.layer_ast.specs.Cut.{text_tokens, place_after}
use Rattle.layer_ast.specs.Depth.{IsWithin}
use Rattle.layer_ast.specs.Print.{file}
use Rattle.layer_ast.specs.Spells.{HasPlace, Spells}
use Rattle.layer_ast.specs.Tree.{FileTree}

-- Tokens with which a file begins, however deep its brackets.
pub record BeginsFile (tokens : List Token) : Type 0 where
  pub whole : FileTree
  pub placed : HasPlace whole
  pub rest : List Token
  pub begins : map (λ p. p.token) (file whole) ≡ tokens ++ rest

-- Tokens that may go on to a file: a file begins with them, and their brackets are nowhere deeper than 100.
pub record MayGoOn (tokens : List Token) : Type 0 where
  pub begins : BeginsFile tokens
  pub within : IsWithin 100 tokens

-- The tokens of a text up to the first bad one.
abbrev pub tokens_of : List ℕ → List Token
tokens_of text = map (λ l. l.token) (text_tokens text).tokens

-- The place just past the last byte of a text.
abbrev pub end_of : List ℕ → At
end_of text = fold (λ at b. place_after b at) (record { line = 1; col = 1 }) text

-- A bad token stands at this place, and all tokens before it may go on to a file.
pub record StopsBad (text : List ℕ) (at : At) : Type 0 where
  pub bad : (text_tokens text).bad_at ≡ Some at
  pub before : MayGoOn (tokens_of text)

-- The token of this number is the first with which the tokens no longer go on to a file.
pub record StopsInside (text : List ℕ) (at : At) : Type 0 where
  pub number : ℕ
  pub token : Lexed
  pub is : slice_get (text_tokens text).tokens number ≡ Some token
  pub place : token.at ≡ at
  pub before : MayGoOn (take number (tokens_of text))
  pub following : MayGoOn (take (number + 1) (tokens_of text)) → ⊥

-- All tokens may go on to a file, but the text ends and spells none.
pub record StopsAtEnd (text : List ℕ) (at : At) : Type 0 where
  pub good : (text_tokens text).bad_at ≡ None
  pub before : MayGoOn (tokens_of text)
  pub none : (f : FileTree) → Spells text f → ⊥
  pub place : end_of text ≡ at
