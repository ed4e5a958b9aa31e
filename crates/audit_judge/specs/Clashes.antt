-- What is seen at a place of lists, as the definitions see it.
use Rattle.std.specs.Prelude.{ℕ, ◌==◌, ◌&&◌, ◌||◌, ◌<◌, not, Bool, false, List, [], ◌∷◌, Option, Some, None, nat_eq}
use Rattle.std.specs.Option.{option_eq}
use Rattle.audit_mean.specs.Segment as spec
use Rattle.audit_mean.specs.Segment.{Name, start, in_view, same_content}
use Rattle.audit_mean.specs.Clash.{Lists, Placed}
use Rattle.audit_judge.specs.Entries.{entry_shown}
use Rattle.audit_judge.specs.Places.{source_of}
use Rattle.audit_judge.specs.declared.segments.Entry.{Entry}
use Rattle.audit_judge.specs.declared.clashes.PlaceKey.{PlaceKey}
use Rattle.audit_judge.specs.declared.clashes.Seen.{Seen}

abbrev pub view_of : Name → Option (ℕ × ℕ)
view_of start = None
view_of (in_view ltime mask) = Some (ltime, mask)

-- the place of a delivery in the lists of segments of one name
abbrev pub place_key : Lists → Placed → PlaceKey
place_key lists placed =
    record { view = view_of placed.entry.segment.name; peer = source_of lists placed.entry; place = placed.place }

abbrev pub same_view : ℕ × ℕ → ℕ × ℕ → Bool
same_view a b = a.0 == b.0 && a.1 == b.1

abbrev pub same_place_key : PlaceKey → PlaceKey → Bool
same_place_key a b = option_eq same_view a.view b.view && (option_eq nat_eq a.peer b.peer && a.place == b.place)

-- whether another member said something else than this at the place
abbrev pub disagrees : Option Seen → spec.Entry → Bool
disagrees None entry = false
disagrees (Some seen) entry =
    (seen.more_members || not (seen.first.member == entry.member)) &&
    (seen.more_contents || not (same_content (entry_shown seen.first) entry))

-- what is seen with one more delivery
abbrev pub seen_with : Option Seen → Entry → Seen
seen_with None entry = record { first = entry; more_members = false; more_contents = false }
seen_with (Some seen) entry = record {
  first = seen.first;
  more_members = seen.more_members || not (seen.first.member == entry.member);
  more_contents = seen.more_contents || not (same_content (entry_shown seen.first) (entry_shown entry));
}

-- deliveries in the order of their lines, all after this line
abbrev pub IsInOrder : ℕ → List Placed → Type 0
IsInOrder line [] = Unit {0}
IsInOrder line (placed ∷ more) = (line < placed.entry.line) × IsInOrder placed.entry.line more
