-- What it is to judge the report of a script.
use Rattle.std.specs.Prelude.{◌≡◌, ℕ, Bool, true, false, List, Result, Ok, Err}
use Rattle.std.specs.List.{concat}
use Rattle.std.specs.declared.alloc.Global.{Global}
use Rattle.std.specs.declared.vec.Vec.{Vec}
use Rattle.msg_core.specs.declared.message.Memory.{Memory}
use Rattle.audit_mean.specs.Finding.{audit_of}
use Rattle.audit_mean.specs.declared.law.Law.{Law}
use Rattle.audit_mean.specs.declared.law.Finding.TheVariants.{Holds, Breach}
use Rattle.layer_mean.specs.Tree.{LayerTree}
use Rattle.outside.specs.Lines.{Gains}
use Rattle.outside.specs.Tells.{Tells}
use Rattle.run_mean.specs.Report.{report_lines}
use Rattle.script_mean.specs.declared.script.Script.{Script}
use Rattle.stack_mean.specs.Plans.{plans_of}
use Rattle.family_world.specs.Standing.{IsLeft}
use Rattle.family_world.specs.declared.playground.Playground.{Playground}

-- The lines of the report of a script over a stack, and its bytes.
abbrev pub lines_of : List LayerTree → Script → List (List ℕ)
lines_of stack script = report_lines stack (plans_of stack) script

-- The bytes of that report.
abbrev pub report_of : List LayerTree → Script → List ℕ
report_of stack script = concat (lines_of stack script)

-- The report of a script was written, or memory ran out.
pub record IsWritten (script : Script) (p p' : Playground) (before after : Tells) : Type 0 where
  pub left : IsLeft script p p'
  pub gained : Gains before after (lines_of p.ground script)

-- It was written, or memory ran out and the group is kept all the same.
abbrev pub Writes : Script → (p p' : Playground) → (before after : Tells) → Result (Unit {0}) Memory → Type 0
Writes script p p' before after (Ok done) = IsWritten script p p' before after
Writes script p p' before after (Err memory) = IsLeft script p p'

-- Two lines of a report break a law.
pub record IsBroken (law : Law) (report : List ℕ) : Type 0 where
  pub first : ℕ
  pub second : ℕ
  pub breach : audit_of law report ≡ Ok (Breach first second)

-- A report keeps a law, or breaks it, or memory ran out.
abbrev pub Finds : Law → List ℕ → Result Bool Memory → Type 0
Finds law report (Ok true) = audit_of law report ≡ Ok Holds
Finds law report (Ok false) = IsBroken law report
Finds law report (Err memory) = Unit {0}

-- The report of a script is told, or memory ran out.
pub record IsReport (script : Script) (p p' : Playground) (report : List ℕ) : Type 0 where
  pub left : IsLeft script p p'
  pub is : report ≡ report_of p.ground script

-- It is told, or memory ran out and the group is kept all the same.
abbrev pub Reports : Script → (p p' : Playground) → Result (Vec ℕ Global) Memory → Type 0
Reports script p p' (Ok report) = IsReport script p p' report.items
Reports script p p' (Err memory) = IsLeft script p p'

-- It keeps a law, or breaks it, or memory ran out.
pub record IsJudged (script : Script) (law : Law) (p p' : Playground) (keep : Bool) : Type 0 where
  pub left : IsLeft script p p'
  pub finds : Finds law (report_of p.ground script) (Ok keep)

-- It is judged, or memory ran out and the group is kept all the same.
abbrev pub Judges : Script → Law → (p p' : Playground) → Result Bool Memory → Type 0
Judges script law p p' (Ok keep) = IsJudged script law p p' keep
Judges script law p p' (Err memory) = IsLeft script p p'
