-- The mark of a line, and the arrow that leads to a reception or a delivery.
use Rattle.std.specs.Prelude.{ℕ, ◌==◌, ◌||◌, ◌%◌, Bool, false, List, [], ◌∷◌, ◌++◌, fold, Option}
use Rattle.std.specs.Prelude.{Some, None, codes, length, bytes_eq, if◌then◌else◌}
use Rattle.std.specs.List.{list_any}
use Rattle.std.specs.Option.{option_map_or}
use Rattle.std.specs.Fmt.{decimal}
use Rattle.script_mean.specs.Words.{Word}
use Rattle.chart_mean.specs.Says.{Says, deliver, packet, view, out, other, give, ask, befall, idle, aside, is_reception}
use Rattle.chart_mean.specs.Label.{label_of}
use Rattle.chart_mean.specs.Place.{Line, down, y_of, words_y}
use Rattle.chart_mean.specs.Escape.{escaped}
use Rattle.chart_mean.specs.declared.types.Breach.{Breach}
use Rattle.chart_mean.specs.declared.types.SentPacket.{SentPacket}

-- How marks are drawn: whether the lines tell of receptions, to which arrows lead then; the breach that is shown; and
-- the layer whose headers are left out.
pub record Manner : Type 0 where
  pub told : Bool
  pub breach : Option Breach
  pub hide : Word

-- the name of the sign by which a line is drawn
abbrev pub sign_of : Says → Word
sign_of (deliver kind member body) = kind
sign_of (packet number member to chain body) = codes "packet"
sign_of (view member ltime mask) = codes "view"
sign_of (out member) = codes "out"
sign_of (other verb member detail) = verb
sign_of (give number member) = codes "event"
sign_of (ask verb member body) = codes "event"
sign_of (befall verb member detail) = codes "event"
sign_of (idle member) = codes "idle"
sign_of aside = codes "aside"

-- an attribute of a number
unfoldable pub numbered : List ℕ → ℕ → List ℕ
numbered name value = codes " " ++ name ++ codes "='" ++ decimal value ++ codes "'"

-- a line tells of a packet that is given to a member
abbrev pub tells : Line → Bool
tells line = is_reception line.says

-- these lines tell of receptions: then arrows lead to them
abbrev pub are_told : List Line → Bool
are_told lines = list_any tells lines

-- the word by which a body is found: none of the empty body `-`, which no packet carries
abbrev pub body_key : Word → Option Word
body_key body = if bytes_eq body (codes "-") then None else Some body

-- the word by which a packet is found: its number where receptions are told, and else its body
abbrev pub key_of : Bool → Says → Option Word
key_of told (packet number member to chain body) = if told then Some number else body_key body
key_of told _ = None

-- a line is a packet that is found by this word
abbrev pub carries : Bool → Word → Says → Bool
carries told wanted says = option_map_or (λ key. bytes_eq key wanted) (key_of told says) false

-- the member that sends the packet of a line, 0 for a line of any other kind
abbrev pub sender_of : Says → ℕ
sender_of (packet number member to chain body) = member
sender_of _ = 0

-- the bearer of a word after one more line
abbrev pub bearer_next : Bool → Word → Option SentPacket → Line → Option SentPacket
bearer_next told wanted found line =
    if carries told wanted line.says then Some (record { x = line.x; member = sender_of line.says }) else found

-- the bearer of a word: the last packet of these lines that is found by it
abbrev pub bearer : Bool → List Line → Word → Option SentPacket
bearer told before wanted = fold (bearer_next told wanted) None before

-- a packet that another member than this one sent
abbrev pub from_another : ℕ → Option SentPacket → Option SentPacket
from_another member None = None
from_another member (Some sent) = if sent.member == member then None else Some sent

-- the packet that is given
abbrev pub given_by : (Word → Option SentPacket) → Says → Option SentPacket
given_by bearers (give number member) = bearers number
given_by bearers _ = None

-- the packet that brings what a line delivers: the bearer of the body, unless the member sent that itself
abbrev pub carried_by : (Word → Option SentPacket) → Says → Option SentPacket
carried_by bearers (deliver kind member body) = from_another member (bearers body)
carried_by bearers _ = None

-- the packet from which an arrow leads to a line: the one that is given, where receptions are told, and else the one
-- that brings what is delivered
abbrev pub bringer : Bool → (Word → Option SentPacket) → Says → Option SentPacket
bringer told bearers says = if told then given_by bearers says else carried_by bearers says

-- an arrow from a packet, if there is one, to a place
abbrev pub arrow : Option SentPacket → (x y : ℕ) → List ℕ
arrow None x y = []
arrow (Some sent) x y =
    codes "<line class='arrow'" ++ numbered (codes "x1") sent.x ++ numbered (codes "y1") (down sent.member)
    ++ numbered (codes "x2") x ++ numbered (codes "y2") y ++ codes "/>"

-- each tenth line of a report has its number at the axis
abbrev pub tenth : Line → List ℕ
tenth line =
    if line.number % 10 == 0 then codes "<text class='number'" ++ numbered (codes "x") line.x ++ codes " y='42'>" ++
    decimal line.number ++ codes "</text>"
    else []

-- a line is one of the two of a breach
abbrev pub is_in : Breach → ℕ → Bool
is_in breach number = number == breach.first || number == breach.second

-- what tells the lines of a breach from others
abbrev pub class_of : Option Breach → ℕ → List ℕ
class_of None number = []
class_of (Some breach) number = if is_in breach number then codes " class='breach'" else []

-- what a mark begins with: its title is the line's text, escaped
abbrev pub title : Option Breach → Line → List ℕ
title breach line = codes "<g id='L" ++ decimal line.number ++ codes "'" ++ class_of breach line.number ++
    codes "><title>" ++ escaped line.text ++ codes "</title>"

-- a line's sign, at its place
abbrev pub sign : Line → List ℕ
sign line = codes "<use href='#" ++ sign_of line.says ++ codes "'" ++ numbered (codes "x") line.x ++
    numbered (codes "y") (y_of line.says) ++ codes "/>"

-- words at a place, escaped, if there are any
abbrev pub words_at : (x y : ℕ) → List ℕ → List ℕ
words_at x y words =
    if length words == 0 then []
    else codes "<text" ++ numbered (codes "x") x ++ numbered (codes "y") y ++ codes " dx='6'>" ++ escaped words ++
    codes "</text>"

-- the words of a line, beside its sign
abbrev pub words : Word → Line → List ℕ
words hide line = words_at line.x (words_y line.says) (label_of hide line.says)

-- the mark of a line, with an arrow from the packet that is received or brings what it delivers
abbrev pub mark : Manner → Option SentPacket → Line → List ℕ
mark manner sent line = title manner.breach line ++ arrow sent line.x (y_of line.says) ++ sign line ++
    words manner.hide line ++ tenth line ++ codes "</g>\n"

-- the marks of lines that stand after others, one each
abbrev pub marks : Manner → List Line → List Line → List (List ℕ)
marks manner before [] = []
marks manner before (line ∷ lines) =
    mark manner (bringer manner.told (bearer manner.told before) line.says) line
    ∷ marks manner (before ++ line ∷ []) lines
