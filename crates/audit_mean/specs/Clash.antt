-- Where members disagree on the order of deliveries.
use Rattle.std.specs.Prelude.{ℕ, ◌==◌, ◌&&◌, not, Bool, true, List, [], ◌∷◌, ◌++◌, map, filter, count_by}
use Rattle.audit_mean.specs.Segment.{Entry, same_name, same_content}

-- the lists that are compared: a segment's deliveries from each peer by itself, or all of them
pub data Lists : Type 0 where
  of_each_peer : Lists
  whole : Lists

-- two deliveries that are from the same peer, where each peer has its list
abbrev pub same_source : Lists → Entry → Entry → Bool
same_source of_each_peer a b = a.peer == b.peer
same_source whole a b = true

-- two deliveries in one list of one member; a segment's name may come twice, and then counts once for each time
abbrev pub same_list : Lists → Entry → Entry → Bool
same_list lists a b = a.member == b.member && (a.segment.began == b.segment.began && same_source lists a b)

-- a delivery with its place in its list, from 0
pub record Placed : Type 0 where
  pub entry : Entry
  pub place : ℕ

-- deliveries that stand after others, each with its place
abbrev pub placed_after : Lists → List Entry → List Entry → List Placed
placed_after lists before [] = []
placed_after lists before (entry ∷ entries) =
    record { entry = entry; place = count_by (λ b. same_list lists b entry) before } ∷
    placed_after lists (before ++ entry ∷ []) entries

-- two deliveries stand at the same place of lists of segments of one name
abbrev pub same_place : Lists → Placed → Placed → Bool
same_place lists a b = same_name a.entry.segment.name b.entry.segment.name &&
    (same_source lists a.entry b.entry && a.place == b.place)

-- two members have different deliveries at the same place
abbrev pub clashes : Lists → Placed → Placed → Bool
clashes lists b a = same_place lists a b &&
    (not (a.entry.member == b.entry.member) && not (same_content a.entry b.entry))

-- the lines of two deliveries, the smaller number first
abbrev pub lines_at : Placed → Placed → ℕ × ℕ
lines_at b a = (a.entry.line, b.entry.line)

-- each delivery with each of those before it that it clashes with
abbrev pub clashes_after : Lists → List Placed → List Placed → List (ℕ × ℕ)
clashes_after lists before [] = []
clashes_after lists before (b ∷ rest) =
    map (lines_at b) (filter (clashes lists b) before) ++ clashes_after lists (before ++ b ∷ []) rest

-- all clashes of the deliveries of a report
abbrev pub clashes_of : Lists → List Entry → List (ℕ × ℕ)
clashes_of lists entries = clashes_after lists [] (placed_after lists [] entries)
