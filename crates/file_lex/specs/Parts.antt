-- The parts of a text: its layers, and its stack.
use Rattle.std.specs.Prelude.{◌≡◌, Bool, true, false, not, ℕ, suc, List, [], ◌∷◌, ◌++◌, take, drop, Option, Some, None}
use Rattle.std.specs.List.{prefix_len}
use Rattle.layer_words.specs.declared.places.At.{At}
use Rattle.layer_ast.specs.declared.tokens.Lexed.{Lexed}
use Rattle.layer_words.specs.declared.signs.Sign.TheVariants as sign
use Rattle.layer_ast.specs.declared.tokens.Token.{Token}
use Rattle.layer_ast.specs.declared.tokens.Token.TheVariants as token
use Rattle.layer_ast.specs.Cut.{Tokens}

-- whether a part begins at a token: the word `layer` or `stack`
abbrev pub begins_part : Token → Bool
begins_part (token.Sign sign.Layer) = true
begins_part (token.Sign sign.Stack) = true
begins_part _ = false

-- how many tokens the first part has: one, and those after it up to the next at which a part begins
abbrev pub part_length : List Lexed → ℕ
part_length [] = 0
part_length (_ ∷ tokens) = suc (prefix_len (λ l. not (begins_part l.token)) tokens)

-- the tokens of the first part
abbrev pub first_part : Tokens → List Lexed
first_part t = take (part_length t.tokens) t.tokens

-- tokens and the bad one after them, or none where the bad one comes at once
abbrev pub unless_bad : List Lexed → Option At → Option Tokens
unless_bad [] (Some _) = None
unless_bad tokens bad_at = Some record { tokens = tokens; bad_at = bad_at }

-- what stands after the first part, or none where that has a bad token
abbrev pub after_part : Tokens → Option Tokens
after_part t = unless_bad (drop (part_length t.tokens) t.tokens) t.bad_at

-- the first part of some tokens was added to others, and this is what stands after it
pub record CutsPart (old new : List Lexed) (whole : Tokens) (following : Option Tokens) : Type 0 where
  pub added : new ≡ old ++ first_part whole
  pub rest : following ≡ after_part whole
