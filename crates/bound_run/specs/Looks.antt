-- What a check over a stack with acts answers.
use Rattle.std.specs.Prelude.{◌≡◌, ℕ, ◌<◌, Bool, true, false, List, ◌++◌, Result, Ok, Err}
use Rattle.audit_mean.specs.Finding.{audit_of}
use Rattle.audit_mean.specs.declared.law.Law.{Law}
use Rattle.audit_mean.specs.declared.law.Finding.TheVariants.{Breach}
use Rattle.end_mean.specs.Status.{Ended, second_refused, too_many_rows, no_memory}
use Rattle.family_mean.specs.Family.{Family}
use Rattle.hunt_mean.specs.Find.{told_breach}
use Rattle.job_ends.specs.Shown.{shown_end}
use Rattle.job_ends.specs.declared.ending.Ending.{Ending}
use Rattle.msg_core.specs.declared.message.Memory.{Memory}
use Rattle.script_mean.specs.Script.{script_of}
use Rattle.script_mean.specs.declared.script.Script.{Script}
use Rattle.stack_mean.specs.Acceptance.{most_rows, rows_of}
use Rattle.bound_mean.specs.Told.{IsAbout}
use Rattle.bound_run.specs.Shown.{finish_for}
use Rattle.bound_run.specs.declared.output.Kind.{Kind}
use Rattle.bound_run.specs.declared.output.Output.{Output}

-- Why nothing is written about a family: its members would keep too many rows, or memory ran out.
abbrev pub StopsOver : Family → Ended → Type 0
StopsOver f (second_refused too_many_rows) = most_rows < rows_of f.stack f.acts.members
StopsOver f no_memory = Unit {0}
StopsOver f _ = ⊥

-- What is written about a family, or why nothing is.
abbrev pub Looks : Family → Result Output Ending → Type 0
Looks f (Ok o) = IsAbout f (finish_for o.kind) o.text
Looks f (Err ending) = StopsOver f (shown_end ending)

-- A line that is written, or memory ran out.
abbrev pub IsLine : Result (List ℕ) Memory → Kind → Result Output Ending → Type 0
IsLine (Ok line) kind (Ok o) = (o.text ≡ line) × (o.kind ≡ kind)
IsLine (Err memory) kind (Err ending) = shown_end ending ≡ no_memory
IsLine _ kind _ = ⊥

-- Two lines of a report break a law.
abbrev pub IsBreach : Law → (report : List ℕ) → (first second : ℕ) → Type 0
IsBreach law report first second = audit_of law report ≡ Ok (Breach first second)

-- A text spells a script, where it is said to.
abbrev pub Spells : (text : List ℕ) → Script → Bool → Type 0
Spells text script true = script_of text ≡ Ok script
Spells text script false = Unit {0}

-- A text spells a script after comments that tell of a breach in a report.
pub record TellsOf (law : Law) (report : List ℕ) (script : Script) (text : List ℕ) : Type 0 where
  pub first : ℕ
  pub second : ℕ
  pub breach : IsBreach law report first second
  pub spells : script_of text ≡ Ok script
  pub rest : List ℕ
  pub told : text ≡ told_breach law report first second ++ rest
