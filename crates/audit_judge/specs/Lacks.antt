-- What members that leave a view together lack of each other, as it is found.
use Rattle.std.specs.Prelude.{◌≡◌, ℕ, ◌+◌, ◌==◌, ◌&&◌, not, if◌then◌else◌, Bool, false, List, [], ◌∷◌, ◌++◌, map}
use Rattle.std.specs.Prelude.{filter, count_by, Option, Some, None, Vec, bytes_eq, unwrap_or}
use Rattle.std.specs.List.{flat_map}
use Rattle.std.specs.Option.{option_eq}
use Rattle.audit_mean.specs.Segment as spec
use Rattle.audit_mean.specs.Segment.{Name, in_view, Numbered, same_name, same_content, segment_after, entries_of}
use Rattle.audit_mean.specs.Line as said
use Rattle.audit_mean.specs.Line.{ReportLine}
use Rattle.audit_mean.specs.Clash.{Placed}
use Rattle.audit_mean.specs.Lack.{is_in}
use Rattle.audit_mean.specs.Lack as lack
use Rattle.audit_mean.specs.Finding.{lesser}
use Rattle.audit_judge.specs.Clashes.{same_view}
use Rattle.audit_judge.specs.Entries.{name_shown, entry_shown}
use Rattle.audit_judge.specs.declared.segments.Entry.{Entry}
use Rattle.audit_judge.specs.declared.contents.Content.{Content}
use Rattle.audit_judge.specs.declared.contents.Ranked.{Ranked}
use Rattle.audit_judge.specs.declared.ended.Ended.{Ended}
use Rattle.audit_judge.specs.declared.ended.Way.{Way}
use Rattle.std.specs.declared.alloc.Global.{Global}

-- deliveries that stand after others, each with how many of the same content come before it
abbrev pub ranked_after : List spec.Entry → List spec.Entry → List Placed
ranked_after before [] = []
ranked_after before (entry ∷ entries) = record { entry = entry; place = count_by (same_content entry) before } ∷
    ranked_after (before ++ entry ∷ []) entries

abbrev pub ranked_shown : Ranked → Placed
ranked_shown ranked = record { entry = entry_shown ranked.entry; place = ranked.place }

abbrev pub content_of : Entry → Content
content_of entry = record { peer = entry.peer; body = entry.body }

abbrev pub same_content_key : Content → Content → Bool
same_content_key a b = a.peer == b.peer && bytes_eq a.body.now b.body.now

-- how often each content comes in these deliveries
abbrev pub Counts : (Content → Option ℕ) → List spec.Entry → Type 0
Counts counts entries = (e : Entry) → unwrap_or (counts (content_of e)) 0 ≡
    count_by (same_content (entry_shown e)) entries

-- one more of a content, and as many of the others as before
abbrev pub OneMore : (Content → Option ℕ) → (Content → Option ℕ) → Content → Type 0
OneMore old new content = (q : Content) →
    new q ≡ (if same_content_key content q then Some (unwrap_or (old content) 0 + 1) else old q)

-- a segment that a member ended, with its deliveries and their ranks
pub record Known : Type 0 where
  pub line : ℕ
  pub member : ℕ
  pub name : Name
  pub next : Name
  pub deliveries : List Placed

abbrev pub known_segment : lack.Ended → Known
known_segment ended = record {
  line = ended.line;
  member = ended.member;
  name = ended.name;
  next = ended.next;
  deliveries =
      ranked_after [] ended.entries;
}

abbrev pub next_shown : ℕ × ℕ → Name
next_shown view = in_view view.0 view.1

abbrev pub ended_shown : Ended → Known
ended_shown ended = record {
  line = ended.line;
  member = ended.member;
  name = name_shown ended.way.from;
  next = next_shown ended.way.to;
  deliveries = map ranked_shown ended.deliveries.items;
}

-- what stands at a key, which is nothing where the key has no list
abbrev pub list_at : {A : Type 0} → Option (Vec A Global) → List A
list_at None = []
list_at (Some list) = list.items

-- the deliveries in the segment that each member is in
abbrev pub Holds : (ℕ → Option (Vec Entry Global)) → List Numbered → Type 0
Holds held before = (member : ℕ) (segment : spec.Segment) → segment_after member before ≡ Some segment →
    map entry_shown (list_at (held member)) ≡ filter (is_in member segment) (entries_of before)

-- whether a line ends a member's segment
abbrev pub is_left : ReportLine → ℕ → Bool
is_left (said.view m ltime mask) member = m == member
is_left (said.out m) member = m == member
is_left _ member = false

-- a member's deliveries after a line, which is a delivery in a segment, or may end one
abbrev pub held_after : Option Entry → ReportLine → ℕ → List Entry → List Entry
held_after (Some entry) line member held = if entry.member == member then held ++ entry ∷ [] else held
held_after None line member held = if is_left line member then [] else held

abbrev pub same_way : Way → Way → Bool
same_way a b = option_eq same_view a.from b.from && same_view a.to b.to

-- a segment of this name that was left for this view
abbrev pub goes : Way → Known → Bool
goes way ended = same_name (name_shown way.from) ended.name && same_name (next_shown way.to) ended.next

-- whether a delivery is the first of its content beyond those in a list
abbrev pub exceeds : List spec.Entry → Placed → Bool
exceeds all placed = placed.place == count_by (same_content placed.entry) all

abbrev pub entries_in : Known → List spec.Entry
entries_in ended = map (λ placed. placed.entry) ended.deliveries

abbrev pub lines_of_lack : ℕ → Placed → ℕ × ℕ
lines_of_lack line placed = (placed.entry.line, line)

-- what a segment with these deliveries, ended by this line, lacks of others
abbrev pub surplus : ℕ → List spec.Entry → List Placed → List (ℕ × ℕ)
surplus line all deliveries = map (lines_of_lack line) (filter (exceeds all) deliveries)

abbrev pub lacks : Known → Known → List (ℕ × ℕ)
lacks one other = surplus one.line (entries_in one) other.deliveries

abbrev pub is_other : Known → Known → Bool
is_other one other = not (one.member == other.member)

abbrev pub lacks_of_one : Known → List Known → List (ℕ × ℕ)
lacks_of_one one group = flat_map (lacks one) (filter (is_other one) group)

abbrev pub goes_with : Known → Known → Bool
goes_with one other = same_name one.name other.name && same_name one.next other.next

abbrev pub lacks_in : List Known → Known → List (ℕ × ℕ)
lacks_in all one = lacks_of_one one (filter (goes_with one) all)

abbrev pub all_lacks : List Known → List (ℕ × ℕ)
all_lacks all = flat_map (lacks_in all) all

-- the first of two breaches, each of which may be none
abbrev pub first_of : Option (ℕ × ℕ) → Option (ℕ × ℕ) → Option (ℕ × ℕ)
first_of None b = b
first_of (Some a) b = Some (lesser a b)
