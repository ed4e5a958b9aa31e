-- A member's row: its number, and a band for each stay in a view.
use Rattle.std.specs.Prelude.{ℕ, zero, suc, ◌+◌, ◌-◌, ◌==◌, ◌%◌, List, [], ◌∷◌, ◌++◌, Option, Some, None, codes}
use Rattle.std.specs.Prelude.{if◌then◌else◌}
use Rattle.std.specs.List.{flat_map}
use Rattle.std.specs.Fmt.{decimal}
use Rattle.msg_core.specs.View.{most_members, rank}
use Rattle.msg_core.specs.declared.packet.View.{View}
use Rattle.chart_mean.specs.Says.{Says, view, out}
use Rattle.chart_mean.specs.Place.{Line, left, down}
use Rattle.chart_mean.specs.Mark.{numbered}
use Rattle.chart_mean.specs.declared.types.Stay.{Stay}
use Rattle.chart_mean.specs.declared.types.Stay.TheVariants.{Untold, Out}
use Rattle.chart_mean.specs.declared.types.Stay.TheVariants as stay
use Rattle.chart_mean.specs.declared.types.Turn.{Turn}

-- where a line says that a member is from then on
abbrev pub stay_of : ℕ → Says → Option Stay
stay_of member (view m ltime mask) = if m == member then Some (stay.View ltime mask) else None
stay_of member (out m) = if m == member then Some Out else None
stay_of member _ = None

-- the turn of a line that stands here, if it says where the member is
abbrev pub stay_turn : ℕ → Option Stay → List Turn
stay_turn x None = []
stay_turn x (Some stay) = record { x = x; stay = stay } ∷ []

-- a member's turn at a line, if the line says that it is in a view or out from then on
abbrev pub turn_at : ℕ → Line → List Turn
turn_at member line = stay_turn line.x (stay_of member line.says)

-- a member's turns at these lines
abbrev pub turns_at : ℕ → List Line → List Turn
turns_at member lines = flat_map (turn_at member) lines

-- the first turn of each member, at the left end: where it is isn't told yet
abbrev pub first_turn : Turn
first_turn = record { x = left; stay = Untold }

-- a line along a member's row
abbrev pub midst : ℕ → (x end : ℕ) → List ℕ
midst member x end =
    codes "<line" ++ numbered (codes "x1") x ++ numbered (codes "y1") (down member) ++ numbered (codes "x2") end ++
    numbered (codes "y2") (down member) ++ codes "/>"

-- a band along a member's row, with a line in its midst
abbrev pub band : ℕ → (x end : ℕ) → List ℕ
band member x end =
    codes "<rect" ++ numbered (codes "x") x ++ numbered (codes "y") (down member - 12) ++
    numbered (codes "width") (end - x) ++ codes " height='24'/>"
    ++ midst member x end

-- a member of a view, by its rank there, with a comma before it unless it is the first
abbrev pub ranked : Option ℕ → ℕ → List ℕ
ranked None id = []
ranked (Some place) id = (if place == 0 then [] else codes ",") ++ decimal id

-- the same of a member of which it isn't known whether the view has it
unfoldable pub ranked_in : View → ℕ → List ℕ
ranked_in shown id = ranked (rank shown id) id

-- the members of a view that are below a number
abbrev pub members_below : View → ℕ → List ℕ
members_below shown zero = []
members_below shown (suc id) = members_below shown id ++ ranked_in shown id

-- a band's label: the view's logical time and its members
abbrev pub label : ℕ → (x ltime mask : ℕ) → List ℕ
label member x ltime mask =
    codes "<text" ++ numbered (codes "x") x ++ numbered (codes "y") (down member - 16)
    ++ codes " dx='4'>view " ++ decimal ltime ++ codes " {"
    ++ members_below (record { ltime = ltime; mask = mask }) most_members ++ codes "}</text>"

-- a band of no view that is known
abbrev pub untold_band : ℕ → (x end : ℕ) → List ℕ
untold_band member x end = codes "<g class='untold'>" ++ band member x end ++ codes "</g>\n"

-- what the band of a view begins with: one of six tints, by the logical time
abbrev pub tinted_band : ℕ → (x end ltime : ℕ) → List ℕ
tinted_band member x end ltime = codes "<g class='view" ++ decimal (ltime % 6) ++ codes "'>" ++ band member x end

-- the band of a stay, up to where it ends; a member that is out has none
abbrev pub stay_band : ℕ → (x end : ℕ) → Stay → List ℕ
stay_band member x end Untold = untold_band member x end
stay_band member x end (stay.View ltime mask) = tinted_band member x end ltime ++ label member x ltime mask ++
    codes "</g>\n"
stay_band member x end Out = []

-- the stays of a member: from each turn to the next, and from the last to the end
abbrev pub stays : ℕ → (end : ℕ) → Turn → List Turn → List ℕ
stays member end turn [] = stay_band member turn.x end turn.stay
stays member end turn (next ∷ turns) = stay_band member turn.x next.x turn.stay ++ stays member end next turns

-- a member's number before its row
abbrev pub heading : ℕ → List ℕ
heading member =
    codes "<text class='member'" ++ numbered (codes "x") (left - 12) ++ numbered (codes "y") (down member + 5) ++
    codes ">" ++ decimal member ++ codes "</text>\n"

-- a member's row
abbrev pub row : (end : ℕ) → List Line → ℕ → List ℕ
row end lines member = heading member ++ stays member end first_turn (turns_at member lines)

-- the rows of the members below a number
abbrev pub rows_below : ℕ → (end : ℕ) → List Line → List ℕ
rows_below zero end lines = []
rows_below (suc member) end lines = rows_below member end lines ++ row end lines member
