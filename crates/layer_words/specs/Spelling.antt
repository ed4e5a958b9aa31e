-- How words and symbols are spelled in bytes.
use Rattle.std.specs.Prelude.{ℕ, ⊤, Bool, ◌||◌, nat_eq, List, [], ◌∷◌, ◌++◌, find, codes, Option}
use Rattle.std.specs.Char.{is_ascii_alphanumeric}
use Rattle.std.specs.Option.{option_map, option_map_or}
use Rattle.std.specs.Str.{bytes_eq}
use denote.Enum.Bare.{sameb}
use Rattle.layer_words.specs.contracts.events.Kind as kind_type
use Rattle.layer_words.specs.contracts.signs.Sign as sign_type
use Rattle.layer_words.specs.declared.events.Kind.{Kind}
use Rattle.layer_words.specs.declared.events.Kind.TheVariants as kind
use Rattle.layer_words.specs.declared.signs.Sign.{Sign}
use Rattle.layer_words.specs.declared.signs.Sign.TheVariants as sign

-- the bytes that separate tokens: space, tab, carriage return and line feed
abbrev pub is_blank : ℕ → Bool
is_blank b = nat_eq b 32 || (nat_eq b 9 || (nat_eq b 13 || nat_eq b 10))

-- the bytes that a word may continue with: letters, digits and the underscore
abbrev pub is_word_byte : ℕ → Bool
is_word_byte b = is_ascii_alphanumeric b || nat_eq b 95

-- the reserved words that aren't kinds
unfoldable pub reserved : List (List ℕ × Sign)
reserved =
    (codes "layer", sign.Layer)
    ∷ (codes "stack", sign.Stack)
    ∷ (codes "param", sign.Param)
    ∷ (codes "state", sign.State)
    ∷ (codes "int", sign.Int)
    ∷ (codes "queue", sign.Queue)
    ∷ (codes "of", sign.Of)
    ∷ (codes "msg", sign.Msg)
    ∷ (codes "part", sign.Part)
    ∷ (codes "header", sign.Header)
    ∷ (codes "passes", sign.Passes)
    ∷ (codes "ends", sign.Ends)
    ∷ (codes "up", sign.Up)
    ∷ (codes "down", sign.Down)
    ∷ (codes "with", sign.With)
    ∷ (codes "common", sign.Common)
    ∷ (codes "rare", sign.Rare)
    ∷ (codes "two", sign.Two)
    ∷ (codes "let", sign.Let)
    ∷ (codes "set", sign.Set)
    ∷ (codes "push", sign.Push)
    ∷ (codes "take", sign.Take)
    ∷ (codes "else", sign.Else)
    ∷ (codes "if", sign.If)
    ∷ (codes "each", sign.Each)
    ∷ (codes "below", sign.Below)
    ∷ (codes "max", sign.Max)
    ∷ (codes "me", sign.Me)
    ∷ (codes "n", sign.N)
    ∷ (codes "ltime", sign.Ltime)
    ∷ (codes "len", sign.Len)
    ∷ (codes "at", sign.AtRow)
    ∷ (codes "held", sign.Held)
    ∷ (codes "size", sign.Size)
    ∷ (codes "cut", sign.Cut)
    ∷ (codes "tail", sign.Tail)
    ∷ (codes "join", sign.Join)
    ∷ (codes "nothing", sign.Nothing)
    ∷ (codes "pick", sign.Pick)
    ∷ (codes "not", sign.Not)
    ∷ (codes "and", sign.And)
    ∷ (codes "or", sign.Or)
    ∷ (codes "bit", sign.Bit)
    ∷ (codes "count", sign.Count)
    ∷ (codes "lowest", sign.Lowest)
    ∷ (codes "none", sign.NoHeader)
    ∷ []

-- the words of the kinds, which are reserved too
unfoldable pub kinds : List (List ℕ × Kind)
kinds =
    (codes "Cast", kind.Cast)
    ∷ (codes "Send", kind.Send)
    ∷ (codes "Timer", kind.Timer)
    ∷ (codes "Suspect", kind.Suspect)
    ∷ (codes "Stable", kind.Stable)
    ∷ (codes "Ack", kind.Ack)
    ∷ (codes "Elect", kind.Elect)
    ∷ (codes "Block", kind.Block)
    ∷ (codes "BlockOk", kind.BlockOk)
    ∷ (codes "Flushed", kind.Flushed)
    ∷ (codes "View", kind.View)
    ∷ (codes "Leave", kind.Leave)
    ∷ []

-- the word of a kind of event
abbrev pub kind_word : Kind → List ℕ
kind_word kind = option_map_or (λ entry. entry.0) (find (λ entry. sameb kind_type.the_type entry.1 kind) kinds) []

-- what stands beside a spelling in a table
abbrev pub beside : {X : Type 0} → List (List ℕ × X) → List ℕ → Option X
beside table spelling = option_map (λ entry. entry.1) (find (λ entry. bytes_eq entry.0 spelling) table)

-- the symbols, those of two bytes before those that they begin with
unfoldable pub symbols : List (List ℕ × Sign)
symbols =
    (codes "==", sign.Equal)
    ∷ (codes "!=", sign.NotEqual)
    ∷ (codes "<=", sign.LessEqual)
    ∷ (codes ">=", sign.GreaterEqual)
    ∷ (codes "{", sign.LeftBrace)
    ∷ (codes "}", sign.RightBrace)
    ∷ (codes "(", sign.LeftParen)
    ∷ (codes ")", sign.RightParen)
    ∷ (codes "[", sign.LeftBracket)
    ∷ (codes "]", sign.RightBracket)
    ∷ (codes ",", sign.Comma)
    ∷ (codes ";", sign.Semicolon)
    ∷ (codes ":", sign.Colon)
    ∷ (codes ".", sign.Dot)
    ∷ (codes "=", sign.Assign)
    ∷ (codes "<", sign.Less)
    ∷ (codes ">", sign.Greater)
    ∷ (codes "+", sign.Plus)
    ∷ (codes "-", sign.Minus)
    ∷ (codes "*", sign.Star)
    ∷ (codes "&", sign.Ampersand)
    ∷ (codes "|", sign.Bar)
    ∷ (codes "^", sign.Caret)
    ∷ []

-- the word or symbol of a sign
abbrev pub sign_text : Sign → List ℕ
sign_text sign =
    option_map_or (λ entry. entry.0) (find (λ entry. sameb sign_type.the_type entry.1 sign) (symbols ++ reserved)) []

-- these tables, which a proof that looks words up unfolds at once
unfoldable pub tables : ⊤
unfolding reserved kinds symbols
tables = tt
