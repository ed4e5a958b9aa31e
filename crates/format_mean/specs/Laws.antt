-- What laying out keeps.
use Rattle.std.specs.Prelude.{◌≡◌, ℕ, List, map, Option, Some, None}
use Rattle.layer_words.specs.declared.places.At.{At}
use Rattle.layer_ast.specs.declared.tokens.Lexed.{Lexed}
use Rattle.layer_ast.specs.declared.tokens.Token.{Token}
use Rattle.layer_ast.specs.Cut.{Tokens, text_tokens}
use Rattle.format_mean.specs.Pieces.{marks}
use Rattle.format_mean.specs.Layout.{formatted}

-- tokens without their places, or none where there is a bad one
abbrev pub unless_bad : List Lexed → Option At → Option (List Token)
unless_bad tokens None = Some (map (λ l. l.token) tokens)
unless_bad tokens (Some at) = None

-- the tokens of a text without their places, or none where there is a bad one
abbrev pub good_tokens : Tokens → Option (List Token)
good_tokens t = unless_bad t.tokens t.bad_at

-- the tokens of the language, or that there is a bad one
abbrev pub KeepsTokens : Type 0
KeepsTokens = (text : List ℕ) → good_tokens (text_tokens (formatted text)) ≡ good_tokens (text_tokens text)

-- tokens and comments, each as it is spelled, in their order
abbrev pub KeepsMarks : Type 0
KeepsMarks = (text : List ℕ) → marks (formatted text) ≡ marks text

-- a text that was laid out stays as it is
abbrev pub IsStable : Type 0
IsStable = (text : List ℕ) → formatted (formatted text) ≡ formatted text
