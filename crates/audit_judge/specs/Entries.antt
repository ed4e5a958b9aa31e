-- Segments and deliveries, as the definitions see them.
use Rattle.std.specs.Prelude.{◌≡◌, ℕ, ◌<◌, List, Option, Some, None, map, option_map, slice_index_or}
use Rattle.std.specs.List.{enumerate_from}
use Rattle.audit_mean.specs.Segment as spec
use Rattle.audit_mean.specs.Segment.{Name, start, in_view, Numbered, segment_after}
use Rattle.audit_judge.specs.Reading.{shown_line}
use Rattle.audit_judge.specs.declared.line.LineMeaning.{LineMeaning}
use Rattle.audit_judge.specs.declared.segments.Segment.{Segment}
use Rattle.audit_judge.specs.declared.segments.Segments.{Segments}
use Rattle.audit_judge.specs.declared.segments.Entry.{Entry}

-- lines with their numbers
abbrev pub numbered_lines : List LineMeaning → List Numbered
numbered_lines lines = enumerate_from 1 (map shown_line lines)

abbrev pub name_shown : Option (ℕ × ℕ) → Name
name_shown None = start
name_shown (Some view) = in_view view.0 view.1

abbrev pub segment_shown : Segment → spec.Segment
segment_shown segment = record { name = name_shown segment.view; began = segment.began }

abbrev pub entry_shown : Entry → spec.Entry
entry_shown entry = record {
  line = entry.line;
  member = entry.member;
  segment = segment_shown entry.segment;
  peer =
      entry.peer;
  body = entry.body.now;
}

-- the segment that a member is in
abbrev pub standing : Segments → ℕ → Option spec.Segment
standing segments member = option_map segment_shown (slice_index_or segments.of_members member None)

-- each member is in its segment after these lines; a member's number is of a byte
abbrev pub Stands : Segments → List Numbered → Type 0
Stands segments before = (member : ℕ) → member < 256 → standing segments member ≡ segment_after member before
