-- The finding of an audit: that a report keeps a law of the group, or the least breach of it.
use Rattle.std.specs.Prelude.{ℕ, ◌==◌, ◌&&◌, ◌||◌, nat_lt, Bool, List, [], ◌∷◌, Option, Some, None, Result, Ok, Err}
use Rattle.std.specs.Prelude.{if◌then◌else◌}
use Rattle.std.specs.List.{enumerate_from}
use Rattle.audit_mean.specs.Text.{is_too_large, lines_of}
use Rattle.audit_mean.specs.Line.{ReportLine}
use Rattle.audit_mean.specs.Report.{running, report_from}
use Rattle.audit_mean.specs.Segment.{Numbered, entries_of}
use Rattle.audit_mean.specs.Clash.{of_each_peer, whole, clashes_of}
use Rattle.audit_mean.specs.Lack.{lacks_of}
use Rattle.audit_mean.specs.declared.law.Law.{Law}
use Rattle.audit_mean.specs.declared.law.Law.TheVariants.{Sender, Total, Same}
use Rattle.audit_mean.specs.declared.law.Finding.{Finding}
use Rattle.audit_mean.specs.declared.law.Finding.TheVariants.{Holds, Breach}

-- all breaches of a law, each as the numbers of its two lines
abbrev pub breaches : Law → List Numbered → List (ℕ × ℕ)
breaches Sender lines = clashes_of of_each_peer (entries_of lines)
breaches Total lines = clashes_of whole (entries_of lines)
breaches Same lines = lacks_of lines

-- one breach comes before another by its second line, and then by its first
abbrev pub comes_before : ℕ × ℕ → ℕ × ℕ → Bool
comes_before x y = nat_lt x.1 y.1 || (x.1 == y.1 && nat_lt x.0 y.0)

-- the first of a breach and another, which may be none
abbrev pub lesser : ℕ × ℕ → Option (ℕ × ℕ) → ℕ × ℕ
lesser x None = x
lesser x (Some y) = if comes_before y x then y else x

-- the breach that no other comes before
abbrev pub least : List (ℕ × ℕ) → Option (ℕ × ℕ)
least [] = None
least (x ∷ xs) = Some (lesser x (least xs))

-- a report keeps a law where there is no breach
abbrev pub finding_of : Option (ℕ × ℕ) → Finding
finding_of None = Holds
finding_of (Some breach) = Breach breach.0 breach.1

-- why a text is no report
pub data AuditFault : Type 0 where
  too_large : AuditFault
  bad_line : (line : ℕ) → AuditFault

-- what the lines say, judged by a law
abbrev pub report_finding : Law → Result (List ReportLine) ℕ → Result Finding AuditFault
report_finding law (Err line) = Err (bad_line line)
report_finding law (Ok lines) = Ok (finding_of (least (breaches law (enumerate_from 1 lines))))

-- the finding of a text by a law, unless it is too large or no report
abbrev pub audit_of : Law → List ℕ → Result Finding AuditFault
audit_of law text = if is_too_large text then Err too_large else report_finding law
    (report_from running 1 (lines_of text))
