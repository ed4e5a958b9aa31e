-- Stubs: what is drawn of a packet that a member never received to which it went.
use Rattle.std.specs.Prelude.{ℕ, zero, suc, ◌+◌, ◌-◌, ◌*◌, ◌==◌, ◌&&◌, ◌||◌, not, min, nat_lt, Bool, false, List, []}
use Rattle.std.specs.Prelude.{◌∷◌, ◌++◌, Option, Some, None, codes, bytes_eq, if◌then◌else◌}
use Rattle.std.specs.List.{list_any}
use Rattle.std.specs.Fmt.{decimal}
use Rattle.script_mean.specs.Words.{Word, number_within}
use Rattle.msg_core.specs.View.{last_member, most_members, rank}
use Rattle.msg_core.specs.declared.packet.View.{View}
use Rattle.chart_mean.specs.Says.{Says, packet, give}
use Rattle.chart_mean.specs.Says as said
use Rattle.chart_mean.specs.Place.{Line, down}
use Rattle.chart_mean.specs.Escape.{escaped}
use Rattle.chart_mean.specs.Mark.{are_told}

-- what a line says is that this packet is given to this member
abbrev pub gives : Word → ℕ → Says → Bool
gives number member (give given to) = bytes_eq given number && to == member
gives number member _ = false

-- the same of a line as it stands in a picture
abbrev pub gives_at : Word → ℕ → Line → Bool
gives_at number member line = gives number member line.says

-- one of these lines tells that this packet is given to this member
abbrev pub was_given : List Line → Word → ℕ → Bool
was_given lines number member = list_any (gives_at number member) lines

-- a packet that was sent: its number, its sender, to whom it goes (`all` or a rank), where it stands, and the view of
-- its sender, if a line told it
pub record Post : Type 0 where
  pub number : Word
  pub sender : ℕ
  pub to : Word
  pub x : ℕ
  pub known : Option View

-- the rank of a member in a view; where none was told, its own number
abbrev pub rank_in : Option View → ℕ → Option ℕ
rank_in None member = Some member
rank_in (Some known) member = rank known member

-- a number is this rank
abbrev pub is_rank : ℕ → Option ℕ → Bool
is_rank rank None = false
is_rank rank (Some wanted) = wanted == rank

-- what goes to these (`all` or a rank) goes to the member of this rank, if it has one
abbrev pub goes_to : Word → Option ℕ → Bool
goes_to to None = false
goes_to to (Some rank) = bytes_eq to (codes "all") || is_rank rank (number_within 0 last_member to)

-- a packet goes to a member other than its sender, to which none of these lines tells that it was given
abbrev pub never_reached : List Line → Post → ℕ → Bool
never_reached lines post member =
    not (member == post.sender) && goes_to post.to (rank_in post.known member) &&
    not (was_given lines post.number member)

-- how many rows lie between two members
abbrev pub distance : ℕ → ℕ → ℕ
distance one two = (one - two) + (two - one)

-- where a stub ends, as seen from its packet: farther to the right for a farther member, and towards its row
abbrev pub stub_end : (sender member : ℕ) → List ℕ
stub_end sender member =
    decimal (10 + 8 * distance sender member) ++ (if nat_lt member sender then codes "-26" else codes " 26")

-- the stub of a packet towards a member that it never reached
abbrev pub stub : Post → ℕ → List ℕ
stub post member =
    codes "<g class='stub'><title>packet " ++ escaped post.number ++ codes " never reached " ++ decimal member ++
    codes "</title><path d='M" ++ decimal post.x ++ codes " " ++ decimal (down post.sender) ++ codes "l" ++
    stub_end post.sender member ++ codes "'/></g>\n"

-- the stub, where the packet never reached the member
abbrev pub stub_if : List Line → Post → ℕ → List ℕ
stub_if lines post member = if never_reached lines post member then stub post member else []

-- the stubs of a packet towards the members below a number
abbrev pub stubs_below : List Line → Post → ℕ → List ℕ
stubs_below lines post zero = []
stubs_below lines post (suc member) = stubs_below lines post member ++ stub_if lines post member

-- the stubs at a line, if it is a packet of this sender
abbrev pub stubs_at : List Line → (rows sender : ℕ) → Option View → ℕ → Says → List ℕ
stubs_at lines rows sender known x (packet number member to chain body) =
    if member == sender then stubs_below lines
    (record { number = number; sender = member; to = to; x = x; known = known }) (min rows most_members)
    else []
stubs_at lines rows sender known x _ = []

-- the view of a member after a line, if one was told
abbrev pub view_after : ℕ → Option View → Says → Option View
view_after member known (said.view told ltime mask) =
    if told == member then Some (record { ltime = ltime; mask = mask }) else known
view_after member known _ = known

-- the stubs of a sender's packets, from a line on
abbrev pub stubs_from : List Line → (rows sender : ℕ) → Option View → List Line → List ℕ
stubs_from lines rows sender known [] = []
stubs_from lines rows sender known (line ∷ following) =
    stubs_at lines rows sender known line.x line.says ++
    stubs_from lines rows sender (view_after sender known line.says) following

-- the stubs of the packets of the members below a number
abbrev pub senders_below : List Line → ℕ → ℕ → List ℕ
senders_below lines rows zero = []
senders_below lines rows (suc sender) = senders_below lines rows sender ++ stubs_from lines rows sender None lines

-- the stubs of all packets, where lines tell of receptions
abbrev pub stubs : ℕ → List Line → List ℕ
stubs rows lines = if are_told lines then senders_below lines rows rows else []
