-- Lines that tell of no view: all their deliveries are in the segment in which members begin.
use Rattle.std.specs.Prelude.{◌≡◌, ℕ, List, [], ◌∷◌, Option, Some, None}
use Rattle.std.specs.List.{filter_map, enumerate_from}
use Rattle.audit_mean.specs.Line.{ReportLine, deliver, view}
use Rattle.audit_mean.specs.Line as line
use Rattle.audit_mean.specs.Segment.{Entry, Numbered, first_segment, entries_of}

-- A line that neither tells of a view nor that a member is out.
abbrev pub IsCalm : ReportLine → Type 0
IsCalm (view member ltime mask) = ⊥
IsCalm (line.out member) = ⊥
IsCalm _ = Unit {0}

-- Each of these lines is calm.
abbrev pub AreCalm : List ReportLine → Type 0
AreCalm [] = Unit {0}
AreCalm (x ∷ lines) = IsCalm x × AreCalm lines

-- The delivery of a line, in the first segment.
abbrev pub first_entry : Numbered → Option Entry
first_entry (n, deliver member peer body) =
    Some record { line = n; member = member; segment = first_segment; peer = peer; body = body }
first_entry (n, _) = None

-- The deliveries of lines that are numbered from n on, each in the first segment.
abbrev pub deliveries_from : ℕ → List ReportLine → List Entry
deliveries_from n lines = filter_map first_entry (enumerate_from n lines)

-- The deliveries of calm lines are these.
abbrev pub CalmDeliveries : Type 0
CalmDeliveries = (lines : List ReportLine) → AreCalm lines → entries_of (enumerate_from 1 lines) ≡
    deliveries_from 1 lines
