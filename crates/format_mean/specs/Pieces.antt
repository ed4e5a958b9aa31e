-- What a text has in it: its tokens and its comments.
use Rattle.std.specs.Prelude.{ℕ, zero, suc, Bool, true, false, ◌&&◌, ◌||◌, nat_eq, if◌then◌else◌, List, [], ◌∷◌, map}
use Rattle.std.specs.Prelude.{take}
use Rattle.std.specs.List.{prefix_len}
use Rattle.layer_words.specs.Spelling.{is_blank, is_word_byte}

-- a token or a comment as it is spelled, and how many line feeds stand before it: two, where there are more
pub record Piece : Type 0 where
  pub feeds : ℕ
  pub spelling : List ℕ

-- what a text begins with: a line feed, another blank, or a token or comment with `more` bytes after its first
pub data Front : Type 0 where
  feed : Front
  blank : Front
  whole : (more : ℕ) → Front

-- one more byte of a comment, unless it and all after it in its line are blanks
abbrev pub one_more : Bool → ℕ → ℕ
one_more true zero = 0
one_more true (suc n) = suc (suc n)
one_more false n = suc n

-- how many bytes there are to the last one of the line that is no blank
abbrev pub comment_length : List ℕ → ℕ
comment_length [] = 0
comment_length (b ∷ bs) = if nat_eq b 10 then 0 else one_more (is_blank b) (comment_length bs)

-- the bytes that make one sign with an equals sign after them: = ! < >
abbrev pub doubles : ℕ → Bool
doubles b = nat_eq b 61 || (nat_eq b 33 || (nat_eq b 60 || nat_eq b 62))

-- how many bytes of a sign stand after its first
abbrev pub sign_length : ℕ → List ℕ → ℕ
sign_length b [] = 0
sign_length b (c ∷ cs) = if doubles b && nat_eq c 61 then 1 else 0

-- how many bytes of a comment, of a word or number, or of a sign stand after its first
abbrev pub length_after : ℕ → List ℕ → ℕ
length_after b bs =
    if nat_eq b 35 then comment_length bs
    else if is_word_byte b then prefix_len is_word_byte bs
    else sign_length b bs

-- what a text begins with, by its first byte and those after it
abbrev pub front : ℕ → List ℕ → Front
front b bs = if nat_eq b 10 then feed else if is_blank b then blank else whole (length_after b bs)

-- one more line feed, of which two count
abbrev pub more_feeds : ℕ → ℕ
more_feeds zero = 1
more_feeds (suc n) = 2

-- what stands at the front of a text and then what is after it
abbrev pub with_front : Front → ℕ → ℕ → List ℕ → (ℕ → ℕ → List Piece) → List Piece
with_front feed feeds b bs rest = rest (more_feeds feeds) 0
with_front blank feeds b bs rest = rest feeds 0
with_front (whole more) feeds b bs rest = record { feeds = feeds; spelling = b ∷ take more bs } ∷ rest 0 more

-- the pieces of a text after `feeds` line feeds, whose first `inside` bytes still belong to a piece before it
abbrev pub pieces_from : (feeds inside : ℕ) → List ℕ → List Piece
pieces_from feeds inside [] = []
pieces_from feeds zero (b ∷ bs) = with_front (front b bs) feeds b bs (λ feeds inside. pieces_from feeds inside bs)
pieces_from feeds (suc inside) (b ∷ bs) = pieces_from feeds inside bs

-- the pieces of a text
abbrev pub pieces : List ℕ → List Piece
pieces text = pieces_from 0 0 text

-- its tokens and comments in their order
abbrev pub marks : List ℕ → List (List ℕ)
marks text = map (λ p. p.spelling) (pieces text)
