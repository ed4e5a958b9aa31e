-- Where members that leave a view together have not delivered the same in it.
use Rattle.std.specs.Prelude.{ℕ, ◌==◌, ◌&&◌, not, Bool, List, [], ◌∷◌, ◌++◌, map, filter, count_by, Option, None}
use Rattle.std.specs.Prelude.{option_map}
use Rattle.std.specs.List.{flat_map}
use Rattle.std.specs.Option.{option_to_list}
use Rattle.audit_mean.specs.Line.{view}
use Rattle.audit_mean.specs.Segment.{Name, in_view, Segment, Numbered, Entry, same_name, same_content, segment_after}
use Rattle.audit_mean.specs.Segment.{entries_of}

-- a segment that a member ended by the `view` line of this number, the view that is next, and what the member delivered
-- in it
pub record Ended : Type 0 where
  pub line : ℕ
  pub member : ℕ
  pub name : Name
  pub next : Name
  pub entries : List Entry

-- a member's delivery in the segment that this line began
abbrev pub is_in : ℕ → Segment → Entry → Bool
is_in member segment entry = entry.member == member && entry.segment.began == segment.began

-- the segment that a line after these ends, if it is a `view` line that ends one
abbrev pub ended_by : List Numbered → Numbered → Option Ended
ended_by before (number, view member ltime mask) =
    option_map
    (λ segment. record {
      line = number;
      member = member;
      name = segment.name;
      next = in_view ltime mask;
      entries =
          filter (is_in member segment) (entries_of before);
    })
    (segment_after member before)
ended_by before (number, _) = None

-- the segments that lines after others end
abbrev pub ended_after : List Numbered → List Numbered → List Ended
ended_after before [] = []
ended_after before (line ∷ lines) = option_to_list (ended_by before line) ++ ended_after (before ++ line ∷ []) lines

-- two members went from segments of one name to the same view
abbrev pub goes_along : Ended → Ended → Bool
goes_along one other = (same_name one.name other.name && same_name one.next other.next) &&
    not (one.member == other.member)

-- of deliveries that come after others, the first of each content beyond those of the one segment: as many come before
-- it as the segment has in all
abbrev pub surplus_after : List Entry → List Entry → List Entry → List Entry
surplus_after all before [] = []
surplus_after all before (entry ∷ entries) =
    filter (λ e. count_by (same_content e) before == count_by (same_content e) all) (entry ∷ []) ++
    surplus_after all (before ++ entry ∷ []) entries

-- what the one segment lacks of the other: the line of the other's first delivery too many of each content, and the
-- line that ended the one
abbrev pub lacks : Ended → Ended → List (ℕ × ℕ)
lacks one other = map (λ entry. (entry.line, one.line)) (surplus_after one.entries [] other.entries)

-- all that segments of a report lack of others
abbrev pub lacks_of : List Numbered → List (ℕ × ℕ)
lacks_of lines =
    let all = ended_after [] lines in
    flat_map (λ one. flat_map (lacks one) (filter (goes_along one) all)) all
