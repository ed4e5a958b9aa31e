-- What the lexer's values say.
use Rattle.std.specs.Prelude.{◌≡◌, ◌<◌, ◌≤◌, ◌+◌, ℕ, suc, length, take, Bool, true, false, not, nat_eq, List, [], ◌∷◌}
use Rattle.std.specs.Prelude.{◌++◌, fold, Option, Some, None}
use Rattle.std.specs.List.{list_all}
use Rattle.layer_words.specs.declared.places.At.{At}
use Rattle.layer_ast.specs.declared.tokens.Lexed.{Lexed}
use Rattle.layer_ast.specs.declared.tokens.Token.TheVariants as token
use Rattle.layer_ast.specs.Cut.{word_token}
use Rattle.layer_ast.specs.Cut.{Piece as Found, gap, one, bad, Tokens as Parts, is_numeral, cut_from, place_after}
use Rattle.file_lex.specs.Parts.{begins_part, CutsPart}
use Rattle.file_lex.specs.declared.Left.{Left}
use Rattle.file_lex.specs.declared.Stop.{Stop}
use Rattle.file_lex.specs.declared.Stop.TheVariants.{Before}
use Rattle.file_lex.specs.declared.Stop.TheVariants as stop
use Rattle.file_lex.specs.declared.Tokens.{Tokens}
use Rattle.file_lex.specs.declared.pieces.Piece.{Piece}
use Rattle.file_lex.specs.declared.pieces.Piece.TheVariants.{Gap, Word, Number, Symbol, Bad}
use Rattle.layer_words.specs.WordBytes.{longest_word}

-- the piece that the lexer found at the front of a text
abbrev pub found : List ℕ → Piece → Found
found text (Gap following) = gap following
found text (Word following) = one (word_token (take (suc following) text)) following
found text (Number value following) = one (token.Number value) following
found text (Symbol sign following) = one (token.Sign sign) following
found text Bad = bad

-- a word is at most longest_word bytes of the text, and no symbol begins a part
abbrev pub IsFront : List ℕ → Piece → Type 0
IsFront text (Word following) = (following < longest_word) × (following < length text)
IsFront text (Symbol sign _) = begins_part (token.Sign sign) ≡ false
IsFront text _ = Unit

-- the tokens that the lexer cut
abbrev pub tokens_of : Tokens → Parts
tokens_of c = record { tokens = c.tokens.items; bad_at = c.bad_at }

-- how many bytes of a piece stand after its first
abbrev pub more_of : Found → ℕ
more_of (gap following) = following
more_of (one _ following) = following
more_of bad = 0

-- whether a part begins at a piece
abbrev pub begins_at : Found → Bool
begins_at (one token _) = begins_part token
begins_at _ = false

-- whether a piece is a number
abbrev pub is_number : Found → Bool
is_number (one token _) = is_numeral token
is_number _ = false

-- the place after bytes
abbrev pub past : List ℕ → At → At
past bytes at = fold (λ at b. place_after b at) at bytes

-- what taking a piece at a place makes of the tokens: it adds the piece's own, and says how long the piece is
abbrev pub GoesOn : Found → At → List Lexed → List Lexed → Option ℕ → Type 0
GoesOn (gap following) at old new more = (new ≡ old) × (more ≡ Some following)
GoesOn (one token following) at old new more = (new ≡ old ++ record { token = token; at = at } ∷ []) ×
    (more ≡ Some following)
GoesOn bad at old new more = (new ≡ old) × (more ≡ None)

-- whether bytes stand in one line
abbrev pub is_flat : List ℕ → Bool
is_flat bytes = list_all (λ b. not (nat_eq b 10)) bytes

-- the tokens of what is left of a text
abbrev pub left_of : Left → Parts
left_of left = cut_from left.after_number 0 left.text.now left.at

-- these tokens and then others
abbrev pub with_front : List Lexed → Parts → Parts
with_front front t = record { tokens = front ++ t.tokens; bad_at = t.bad_at }

-- the places of what is left are numbers of 32 bits
pub record HasRoom (left : Left) : Type 0 where
  pub line : left.at.line + length left.text.now < 4294967296
  pub col : left.at.col + length left.text.now < 4294967296

-- tokens were added up to here, where this is left: no more of them than there were bytes, and where no token is left,
-- no byte is
pub record IsAfter (old new : List Lexed) (left next : Left) : Type 0 where
  pub room : HasRoom next
  pub fewer : length next.text.now + length new ≤ length left.text.now + length old
  pub ended : (left_of next).tokens ≡ [] → next.text.now ≡ []

-- what cutting gives: the front of what is left was cut, all of it or its first part, or there is a bad token after
-- it
pub record StopsBefore (old new : List Lexed) (left : Left) (to_end : Bool) (next : Left) : Type 0 where
  pub all : to_end ≡ true → with_front new record { tokens = []; bad_at = None } ≡ with_front old (left_of left)
  pub part : to_end ≡ false → CutsPart old new (left_of left) (Some (left_of next))
  pub following : IsAfter old new left next

pub record StopsBad (old new : List Lexed) (left : Left) (to_end : Bool) (at : At) : Type 0 where
  pub all : with_front new record { tokens = []; bad_at = Some at } ≡ with_front old (left_of left)
  pub part : to_end ≡ false → CutsPart old new (left_of left) None

abbrev pub Stops : List Lexed → List Lexed → Left → Bool → Stop → Type 0
Stops old new left to_end (Before next) = StopsBefore old new left to_end next
Stops old new left to_end (stop.Bad at) = StopsBad old new left to_end at
