-- Where things stand in a picture: lines from left to right, members from the top down.
use Rattle.std.specs.Prelude.{ℕ, ◌+◌, ◌-◌, ◌*◌, ◌==◌, max, min, List, [], ◌∷◌, fold, length}
use Rattle.std.specs.Prelude.{if◌then◌else◌}
use Rattle.std.specs.Option.{option_map_or}
use Rattle.script_mean.specs.Words.{Word}
use Rattle.chart_mean.specs.Says.{Says, packet, idle, aside, says_of, settled, member_of}
use Rattle.chart_mean.specs.Label.{label_of}

-- the left end of all rows
abbrev pub left : ℕ
left = 40

-- where the first line stands
abbrev pub first_x : ℕ
first_x = 52

-- a member's row
abbrev pub down : ℕ → ℕ
down member = 112 + 96 * member

-- the row of the lines that are beside the members
abbrev pub axis : ℕ
axis = 48

-- a line of a report in a picture: its number in the report, its place, its text and what it says
pub record Line : Type 0 where
  pub number : ℕ
  pub x : ℕ
  pub text : List ℕ
  pub says : Says

-- how far down a line stands
abbrev pub y_of : Says → ℕ
y_of says = option_map_or down (member_of says) axis

-- how far down words stand: those of a packet above its member's row, others below
abbrev pub words_y : Says → ℕ
words_y (packet number member to chain body) = down member - 9
words_y says = y_of says + 23

-- how much room each byte of a line's words takes: half of it where the next line's words stand elsewhere
abbrev pub room_of : (says next : Says) → ℕ
room_of says next = if words_y says == words_y next then 6 else 3

-- how much room a line takes before the next: for its sign, and for its words, of which 60 bytes count; a tick of
-- which nothing came takes little
abbrev pub width_of : Word → (says next : Says) → ℕ
width_of hide (idle member) next = 2
width_of hide says next = 18 + room_of says next * min 60 (length (label_of hide says))

-- what the first of these lines says, if there is one
abbrev pub first_says : List (List ℕ) → Says
first_says [] = aside
first_says (text ∷ texts) = says_of text

-- the line at a place of a picture that begins with the line of this number, before one that says this
abbrev pub line_at : (first place x : ℕ) → List ℕ → (next : Says) → Line
line_at first place x text next =
    record { number = first + place; x = x; text = text; says = settled (says_of text) next }

-- where the next line stands
abbrev pub x_next : Word → ℕ → List ℕ → (next : Says) → ℕ
x_next hide x text next = x + width_of hide (settled (says_of text) next) next

-- where the line after these stands
abbrev pub x_after : Word → ℕ → List (List ℕ) → ℕ
x_after hide x [] = x
x_after hide x (text ∷ texts) = x_after hide (x_next hide x text (first_says texts)) texts

-- the lines of such a picture, from a place on
abbrev pub lines_from : Word → (first place x : ℕ) → List (List ℕ) → List Line
lines_from hide first place x [] = []
lines_from hide first place x (text ∷ texts) =
    line_at first place x text (first_says texts)
    ∷ lines_from hide first (place + 1) (x_next hide x text (first_says texts)) texts

-- the rows up to the member of a line
abbrev pub rows_to : Says → ℕ
rows_to says = option_map_or (λ member. member + 1) (member_of says) 0

-- the rows of a picture: up to the highest member of which a line tells
abbrev pub rows : List Line → ℕ
rows lines = fold (λ most line. max most (rows_to line.says)) 0 lines
