-- How pieces are laid out in lines.
use Rattle.std.specs.Prelude.{ℕ, zero, suc, ◌+◌, ◌-◌, ◌*◌, Bool, true, false, ◌&&◌, ◌||◌, nat_eq, nat_lt, if◌then◌else◌}
use Rattle.std.specs.Prelude.{List, [], ◌∷◌, ◌++◌, length, replicate}
use Rattle.std.specs.List.{concat}
use Rattle.format_mean.specs.declared.stand.Class.{Class}
use Rattle.format_mean.specs.declared.stand.Class.TheVariants as class
use Rattle.format_mean.specs.declared.stand.Stand.{Stand}
use Rattle.format_mean.specs.declared.stand.TheConstants.{DEEPEST, STEP, HANG, COMMENT_COLUMN}
use Rattle.format_mean.specs.Classes.{class_of, are_joined, ends_statement, is_brace, seen_after}
use Rattle.format_mean.specs.Pieces.{Piece, pieces}

-- how many braces are open after a token or comment; a closing brace changes nothing where none is open
abbrev pub depth_after : ℕ → Class → ℕ
depth_after depth class.Opening = if nat_lt depth DEEPEST then depth + 1 else depth
depth_after depth class.Closing = depth - 1
depth_after depth _ = depth

-- whether one is in a layer after it
abbrev pub in_layer_after : Bool → Class → Bool
in_layer_after was class.Layer = true
in_layer_after was class.Stack = false
in_layer_after was _ = was

-- where the next one stands
abbrev pub following : Stand → Class → Stand
following s c = record {
  depth = depth_after s.depth c;
  in_layer = in_layer_after s.in_layer c;
  last =
      seen_after s.last c;
}

-- what begins a line wherever it stands: a layer, the stack, a declaration, a handler, and the end of a layer
abbrev pub leads : Stand → Class → Bool
leads s class.Layer = true
leads s class.Stack = true
leads s class.Declaring = true
leads s class.Going = nat_eq s.depth 1
leads s class.Closing = nat_eq s.depth 1 && s.in_layer
leads s _ = false

-- whether the last one was a comment, which goes on to the end of its line
abbrev pub is_remark : Class → Bool
is_remark class.Remark = true
is_remark _ = false

-- whether one has to begin a line
abbrev pub begins_line : Stand → Class → Bool
begins_line s c = is_remark s.last || leads s c

-- how many braces are open where a line begins with it
abbrev pub depth_of : Stand → Class → ℕ
depth_of s class.Closing = s.depth - 1
depth_of s _ = s.depth

-- how far that line is indented: by the open braces, and further where it goes on with a statement
abbrev pub indentation : Stand → Class → ℕ
indentation s c = STEP * depth_of s c + (if ends_statement s.last || is_brace c then 0 else HANG)

-- a number, or 1 where it is 0
abbrev pub at_least_one : ℕ → ℕ
at_least_one zero = 1
at_least_one (suc n) = suc n

-- how many blanks stand before it in a line of `column` bytes: a comment stands at its column, or after one blank
abbrev pub blanks_apart : Stand → ℕ → Class → ℕ
blanks_apart s column class.Remark = at_least_one (COMMENT_COLUMN - column)
blanks_apart s column c = if are_joined s.last c then 0 else 1

-- a line that has begun, and where the next piece stands
pub record Begun : Type 0 where
  pub stand : Stand
  pub line : List ℕ

-- whether a line has no bytes yet
abbrev pub is_bare : List ℕ → Bool
is_bare [] = true
is_bare (_ ∷ _) = false

-- the line feeds before a piece: those of the text, and one where it has to begin a line; none before the
-- first
abbrev pub feeds_of : (bare : Bool) → Stand → Class → ℕ → ℕ
feeds_of bare s c feeds = if bare then 0 else if begins_line s c then at_least_one feeds else feeds

-- how many line feeds are put before a piece
abbrev pub feeds_before : Begun → Piece → ℕ
feeds_before t p = feeds_of (is_bare t.line) t.stand (class_of p.spelling) p.feeds

-- the blanks before a piece after what its line has
abbrev pub blanks_before : Stand → List ℕ → Class → ℕ
blanks_before s line c = if is_bare line then indentation s c else blanks_apart s (length line) c

-- the line that so many line feeds end, if there are any
abbrev pub line_at_feeds : List ℕ → ℕ → List (List ℕ)
line_at_feeds line zero = []
line_at_feeds line (suc n) = (line ++ replicate (suc n) 10) ∷ []

-- what a line still has after so many line feeds: all of it without one, and nothing after any
abbrev pub left_of : List ℕ → ℕ → List ℕ
left_of line zero = line
left_of line (suc n) = []

-- a piece is put after what a line has
abbrev pub put_after : Stand → List ℕ → List ℕ → Begun
put_after s line spelling =
    let c = class_of spelling in
    record { stand = following s c; line = line ++ replicate (blanks_before s line c) 32 ++ spelling }

-- the line that is ended before a piece, if one is
abbrev pub lines_at : Begun → Piece → List (List ℕ)
lines_at t p = line_at_feeds t.line (feeds_before t p)

-- the line with a piece in it: the one that has begun, or a new one after line feeds
abbrev pub begun_at : Begun → Piece → Begun
begun_at t p = put_after t.stand (left_of t.line (feeds_before t p)) p.spelling

-- the last line
abbrev pub last_line : List ℕ → List (List ℕ)
last_line [] = []
last_line (b ∷ bs) = (b ∷ bs ++ 10 ∷ []) ∷ []

-- the lines of pieces after what has begun, each with the line feeds that end it
abbrev pub lines_from : Begun → List Piece → List (List ℕ)
lines_from t [] = last_line t.line
lines_from t (p ∷ ps) = lines_at t p ++ lines_from (begun_at t p) ps

-- where a file begins
abbrev pub beginning : Begun
beginning = record { stand = record { depth = 0; in_layer = false; last = class.Semicolon }; line = [] }

-- a text laid out, line by line, each with the line feeds that end it
abbrev pub formatted_lines : List ℕ → List (List ℕ)
formatted_lines text = lines_from beginning (pieces text)

-- a text laid out, as a whole
abbrev pub formatted : List ℕ → List ℕ
formatted text = concat (formatted_lines text)
