-- How a text is cut into tokens.
use Rattle.std.specs.Prelude.{ℕ, zero, suc, ◌+◌, ◌-◌, ◌*◌, Bool, true, false, not, ◌&&◌, nat_eq, nat_lt, nat_le}
use Rattle.std.specs.Prelude.{if◌then◌else◌, List, [], ◌∷◌, length, take, find, fold, Option, Some, None}
use Rattle.std.specs.Char.{is_ascii_alphabetic, is_ascii_digit}
use Rattle.std.specs.List.{prefix_len, starts_with}
use Rattle.std.specs.Option.{option_map_or}
use Rattle.layer_ast.specs.declared.tokens.Lexed.{Lexed}
use Rattle.layer_ast.specs.declared.tokens.Token.{Token}
use Rattle.layer_ast.specs.declared.tokens.Token.TheVariants as token
use Rattle.layer_words.specs.declared.places.At.{At}
use Rattle.layer_words.specs.declared.signs.Sign.{Sign}
use Rattle.layer_words.specs.Spelling.{is_blank, is_word_byte, reserved, kinds, beside, symbols}

-- the token of a word: that of a reserved one, or else a name
unfoldable pub word_token : List ℕ → Token
word_token word = option_map_or token.Sign (beside reserved word)
    (option_map_or token.Kind (beside kinds word) (token.Name word))

-- the longest symbol that a text begins with, and its bytes
unfoldable pub symbol_at : List ℕ → Option (List ℕ × Sign)
symbol_at text = find (λ entry. starts_with nat_eq text entry.0) symbols

-- the number that decimal digits spell
abbrev pub number_of : List ℕ → ℕ
number_of digits = fold (λ n digit. 10 * n + (digit - 48)) 0 digits

-- what a text begins with: a gap, a token, or a bad byte; with the number of its bytes after the first
pub data Piece : Type 0 where
  gap : (following : ℕ) → Piece
  one : (token : Token) (following : ℕ) → Piece
  bad : Piece

-- the word at the front of a text: a letter with the word bytes after it, at most 32 bytes in all
abbrev pub word_piece : ℕ → List ℕ → Piece
word_piece b bs =
    let n = prefix_len is_word_byte bs in if nat_le n 31 then one (word_token (b ∷ take n bs)) n else bad

-- the number at the front of a text: a digit with the digits after it, with no leading zero, at most 4294967295
abbrev pub number_piece : ℕ → List ℕ → Piece
number_piece b bs =
    let n = prefix_len is_ascii_digit bs in
    if nat_eq b 48 && nat_lt 0 n then bad
    else if nat_le (number_of (b ∷ take n bs)) 4294967295 then one (token.Number (number_of (b ∷ take n bs))) n
    else bad

-- the symbol at the front of a text
abbrev pub symbol_piece : List ℕ → Piece
symbol_piece text = option_map_or (λ entry. one (token.Sign entry.1) (length entry.0 - 1)) (symbol_at text) bad

-- the piece at the front of a text, where a letter is bad directly after a number
unfoldable pub piece : Bool → ℕ → List ℕ → Piece
piece after_number b bs =
    if is_blank b then gap 0
    else if nat_eq b 35 then gap (prefix_len (λ c. not (nat_eq c 10)) bs)
    else if is_ascii_alphabetic b then (if after_number then bad else word_piece b bs)
    else if is_ascii_digit b then number_piece b bs
    else symbol_piece (b ∷ bs)

-- the place after a byte
abbrev pub place_after : ℕ → At → At
place_after b at = if nat_eq b 10 then record { line = at.line + 1; col = 1 } else record at { col = at.col + 1 }

-- the tokens before the first bad one, and the place of that one
pub record Tokens : Type 0 where
  pub tokens : List Lexed
  pub bad_at : Option At

-- whether a token is a number
abbrev pub is_numeral : Token → Bool
is_numeral (token.Number _) = true
is_numeral _ = false

-- a piece before the tokens after it, which follow from whether it is a number and how long it is
abbrev pub with_piece : Piece → At → (Bool → ℕ → Tokens) → Tokens
with_piece (gap following) at rest = rest false following
with_piece (one t following) at rest =
    let r = rest (is_numeral t) following in record r { tokens = record { token = t; at = at } ∷ r.tokens }
with_piece bad at rest = record { tokens = []; bad_at = Some at }

-- the tokens from a place on: a piece begins here and after each piece, and n bytes of a piece are still to come
abbrev pub cut_from : Bool → ℕ → List ℕ → At → Tokens
cut_from after_number inside [] at = record { tokens = []; bad_at = None }
cut_from after_number zero (b ∷ bs) at =
    with_piece (piece after_number b bs) at (λ number following. cut_from number following bs (place_after b at))
cut_from after_number (suc inside) (b ∷ bs) at = cut_from after_number inside bs (place_after b at)

-- the tokens of a whole text
abbrev pub text_tokens : List ℕ → Tokens
text_tokens text = cut_from false 0 text record { line = 1; col = 1 }
