-- A criterion for the laws `sender` and `total`: there is one table that tells, for each list and each place, what
-- every member delivers there.
use Rattle.std.specs.Prelude.{◌≡◌, ℕ, List, [], ◌∷◌, ◌++◌, map, filter, length, take, count_by, slice_get, Option, Some}
use Rattle.script_mean.specs.Words.{Word}
use Rattle.audit_mean.specs.Segment.{Name, Entry}
use Rattle.audit_mean.specs.Clash.{Lists, of_each_peer, whole, same_list, clashes_of}

-- What a delivery tells: the peer that cast it, and the body.
abbrev pub told : Entry → ℕ × Word
told entry = (entry.peer, entry.body)

-- The list in which a peer's deliveries stand: its own, or the one of all peers.
abbrev pub list_number : Lists → ℕ → ℕ
list_number of_each_peer peer = peer
list_number whole peer = 0

-- The place of a delivery in its list, counted from 0, after these deliveries.
abbrev pub place_after : Lists → List Entry → Entry → ℕ
place_after lists before entry = count_by (λ b. same_list lists b entry) before

-- A table: what is delivered in segments of a name, in a list, at a place.
abbrev pub Table : Type 0
Table = Name → (list place : ℕ) → Option (ℕ × Word)

-- Deliveries after others are each what the table tells of its place.
abbrev pub AreTold : Lists → Table → (before entries : List Entry) → Type 0
AreTold lists table before [] = Unit {0}
AreTold lists table before (entry ∷ entries) =
    (table entry.segment.name (list_number lists entry.peer) (place_after lists before entry) ≡ Some (told entry))
    × AreTold lists table (before ++ entry ∷ []) entries

-- Deliveries of which a table tells have no clash: `sender` holds by a table of each peer's list, `total` by one of the
-- whole list.
abbrev pub ToldKeep : Type 0
ToldKeep = (lists : Lists) (table : Table) (entries : List Entry) → AreTold lists table [] entries →
    clashes_of lists entries ≡ []

-- What a table tells of a list stands at the same places of these.
abbrev pub TellsOf : Table → (list : ℕ) → List (ℕ × Word) → Type 0
TellsOf table list all =
    (name : Name) (place : ℕ) (x : ℕ × Word) → table name list place ≡ Some x → slice_get all place ≡ Some x

-- The deliveries that stand in one list with this one.
abbrev pub list_of : Lists → Entry → List Entry → List Entry
list_of lists like entries = filter (λ b. same_list lists b like) entries

-- So a list of deliveries is the first so many of what the table tells of it: none is left out, none comes twice.
abbrev pub ToldAreFirst : Type 0
ToldAreFirst = (lists : Lists) (table : Table) (entries : List Entry) (like : Entry) (all : List (ℕ × Word)) →
    AreTold lists table [] entries → TellsOf table (list_number lists like.peer) all →
    map told (list_of lists like entries) ≡ take (length (list_of lists like entries)) all
