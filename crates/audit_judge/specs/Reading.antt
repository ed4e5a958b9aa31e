-- What the readers of words and lines answer.
use Rattle.std.specs.Prelude.{◌≡◌, ℕ, ◌&&◌, ◌||◌, nat_le, Bool, List, Option, Some, None, option_map, map, Result, Ok}
use Rattle.std.specs.Prelude.{Err, Vec}
use Rattle.script_mean.specs.Words.{Word}
use Rattle.script_text.specs.Parts.{parts_after}
use Rattle.audit_mean.specs.Line as spec
use Rattle.audit_mean.specs.Line.{ReportLine}
use Rattle.audit_judge.specs.declared.line.LineMeaning.{LineMeaning}
use Rattle.audit_judge.specs.declared.line.LineMeaning.TheVariants.{Deliver, View, Out, End, Visits, Silent}
use Rattle.audit_judge.specs.declared.parts.Parts.{Parts}
use Rattle.audit_judge.specs.declared.report.ReportPart.{ReportPart}
use Rattle.audit_judge.specs.declared.report.ReportPart.TheVariants.{Running, Ended, Closed}
use Rattle.audit_judge.specs.declared.error.AuditError.{AuditError}
use Rattle.audit_judge.specs.declared.error.AuditError.TheVariants as error
use Rattle.audit_mean.specs.Report as report
use Rattle.std.specs.declared.alloc.Global.{Global}
use denote.Ref.{Bor}

-- a hexadecimal digit in lower case
abbrev pub is_hex_digit : ℕ → Bool
is_hex_digit byte = (nat_le 48 byte && nat_le byte 57) || (nat_le 97 byte && nat_le byte 102)

-- the parts that are left
abbrev pub parts_left : Parts → List Word
parts_left parts = parts_after parts.at parts.rest

-- a line as the definitions see it
abbrev pub shown_line : LineMeaning → ReportLine
shown_line (Deliver member peer body) = spec.deliver member peer body.now
shown_line (View member ltime mask) = spec.view member ltime mask
shown_line (Out member) = spec.out member
shown_line End = spec.end
shown_line Visits = spec.visits
shown_line Silent = spec.silent

-- what a form took from the words, and the words after it
abbrev pub Takes : {A : Type 0} → Option (A × List Word) → Option A → List Word → Type 0
Takes taken (Some value) following = taken ≡ Some (value, following)
Takes taken None following = taken ≡ None

-- what a form of one word took from the words, and the words after it
abbrev pub TakesWord : Option (Word × List Word) → Option (Bor (List ℕ)) → List Word → Type 0
TakesWord taken (Some word) following = taken ≡ Some (word.now, following)
TakesWord taken None following = taken ≡ None

-- what a form said of a whole line
abbrev pub Says : Option (ReportLine × List Word) → Option LineMeaning → Type 0
Says taken (Some line) = option_map (λ t. t.0) taken ≡ Some (shown_line line)
Says taken None = taken ≡ None

-- a stage as the definitions see it
abbrev pub stage_shown : ReportPart → report.Stage
stage_shown Running = report.running
stage_shown Ended = report.ended
stage_shown Closed = report.closed

-- the stage after a line
abbrev pub NextStage : ReportPart → LineMeaning → Option ReportPart → Type 0
NextStage stage line next = option_map stage_shown next ≡ report.stage_after (stage_shown stage) (shown_line line)

-- the lines of a report, or the first out of form; want of memory says nothing
abbrev pub Reads : Result (List ReportLine) ℕ → Result (Vec LineMeaning Global) AuditError → Type 0
Reads read (Ok lines) = read ≡ Ok (map shown_line lines.items)
Reads read (Err (error.Line number)) = read ≡ Err number
Reads read (Err error.TooLarge) = ⊥
Reads read (Err error.Memory) = Unit {0}
