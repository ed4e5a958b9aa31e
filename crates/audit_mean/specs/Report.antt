-- Which report a text is, or the first line of it that is out of form.
use Rattle.std.specs.Prelude.{ℕ, ◌+◌, List, [], ◌∷◌, Option, Some, None, Result, Ok, Err}
use Rattle.audit_mean.specs.Line.{ReportLine, end, visits, line_said}

-- where in a report a line stands: before `end`, after it, or after `visits`, where nothing may follow
pub data Stage : Type 0 where
  running : Stage
  ended : Stage
  closed : Stage

-- the stage after a line, if the line may stand there: `end` once, and `visits` only after it
abbrev pub stage_after : Stage → ReportLine → Option Stage
stage_after running end = Some ended
stage_after running visits = None
stage_after running line = Some running
stage_after ended visits = Some closed
stage_after ended line = None
stage_after closed line = None

infixl 10 ◌>>=◌
-- the second step, if the first met no line out of form
abbrev pub ◌>>=◌ : {A B : Type 0} → Result A ℕ → (A → Result B ℕ) → Result B ℕ
Ok value >>= next = next value
Err line >>= next = Err line

-- a value that the line of this number has to have
abbrev pub in_form : {A : Type 0} → ℕ → Option A → Result A ℕ
in_form number None = Err number
in_form number (Some value) = Ok value

-- the lines may end after `end`; else it is missing
abbrev pub at_end : Stage → ℕ → Result (List ReportLine) ℕ
at_end running number = Err number
at_end ended number = Ok []
at_end closed number = Ok []

-- what the lines from this number on say, or the number of the first that is out of form or out of place; where `end`
-- is missing that is one past the last
abbrev pub report_from : Stage → ℕ → List (List ℕ) → Result (List ReportLine) ℕ
report_from stage number [] = at_end stage number
report_from stage number (line ∷ lines) = do
  said ← in_form number (line_said line)
  next ← in_form number (stage_after stage said)
  more ← report_from next (number + 1) lines
  Ok (said ∷ more)
