-- The segments of a member's lines, and the deliveries in them.
use Rattle.std.specs.Prelude.{ℕ, ◌==◌, ◌&&◌, Bool, true, false, List, [], ◌∷◌, ◌++◌, fold, Option, Some, None}
use Rattle.std.specs.Prelude.{option_map, bytes_eq, if◌then◌else◌}
use Rattle.std.specs.Option.{option_to_list}
use Rattle.script_mean.specs.Words.{Word}
use Rattle.audit_mean.specs.Line.{ReportLine, deliver, view, out}

-- what a segment is called: the first `start`, each other one after the view that it is in
pub data Name : Type 0 where
  start : Name
  in_view : (ltime mask : ℕ) → Name

-- two segments are called alike: both are the first, or both are in one view, by its ltime and its members
abbrev pub same_name : Name → Name → Bool
same_name start start = true
same_name (in_view ltime mask) (in_view ltime' mask') = ltime == ltime' && mask == mask'
same_name _ _ = false

-- a segment of a member: what it is called, and the number of the line that began it, which is 0 for the first
pub record Segment : Type 0 where
  pub name : Name
  pub began : ℕ

-- the segment in which each member begins, which no line began
abbrev pub first_segment : Segment
first_segment = record { name = start; began = 0 }

-- lines with their numbers, from 1
abbrev pub Numbered : Type 0
Numbered = ℕ × ReportLine

-- a member's segment after a line, given the one before: `view` begins another, and `out` ends it and begins none
abbrev pub segment_next : ℕ → Option Segment → Numbered → Option Segment
segment_next member now (number, view m ltime mask) =
    if m == member then Some (record { name = in_view ltime mask; began = number }) else now
segment_next member now (number, out m) = if m == member then None else now
segment_next member now (number, _) = now

-- a member's segment after these lines, if it is in one
abbrev pub segment_after : ℕ → List Numbered → Option Segment
segment_after member lines = fold (segment_next member) (Some first_segment) lines

-- a delivery of a cast in a segment
pub record Entry : Type 0 where
  pub line : ℕ
  pub member : ℕ
  pub segment : Segment
  pub peer : ℕ
  pub body : Word

-- two deliveries say the same: the same peer and the same body
abbrev pub same_content : Entry → Entry → Bool
same_content a b = a.peer == b.peer && bytes_eq a.body b.body

-- the delivery of a line, if it is one of a member in a segment
abbrev pub entry_in : (ℕ → Option Segment) → Numbered → Option Entry
entry_in segments (number, deliver member peer body) =
    option_map (λ segment. record { line = number; member = member; segment = segment; peer = peer; body = body })
    (segments member)
entry_in segments (number, _) = None

-- the delivery of a line after these
abbrev pub entry_after : List Numbered → Numbered → Option Entry
entry_after before line = entry_in (λ member. segment_after member before) line

-- the deliveries of lines that stand after others, in order
abbrev pub entries_after : List Numbered → List Numbered → List Entry
entries_after before [] = []
entries_after before (line ∷ lines) = option_to_list (entry_after before line) ++
    entries_after (before ++ line ∷ []) lines

-- the deliveries of a report
abbrev pub entries_of : List Numbered → List Entry
entries_of lines = entries_after [] lines
