-- What the judging of a script from its bytes answers.
use Rattle.std.specs.Prelude.{◌≡◌, ℕ, ◌≤◌, List, length, Ok}
use Rattle.audit_mean.specs.Finding.{audit_of}
use Rattle.audit_mean.specs.declared.law.Law.{Law}
use Rattle.audit_mean.specs.declared.law.Finding.TheVariants.{Breach}
use Rattle.layer_mean.specs.Tree.{LayerTree}
use Rattle.output_mean.specs.Judged.{Means}
use Rattle.script_mean.specs.Script.{IsRunnable, script_of}
use Rattle.script_mean.specs.declared.script.Script.{Script}
use Rattle.stack_mean.specs.Acceptance.{most_rows, rows_of}
use Rattle.hunt_mean.specs.Find.{report_of}
use Rattle.hunt_mean.specs.Words.{Request}
use Rattle.hunt_run.specs.declared.broken.Broken.{Broken}

-- A script has no more members and events than are asked for, nor more events than a script of a generated run has.
pub record IsWithin (r : Request) (script : Script) : Type 0 where
  pub members : script.members ≤ r.members
  pub events : length script.events ≤ r.events
  pub few : length script.events ≤ 99999

-- A text spells this script, which can be run, and is within what is asked for.
pub record IsAsked (r : Request) (text : List ℕ) (script : Script) : Type 0 where
  pub spells : script_of text ≡ Ok script
  pub runs : IsRunnable script
  pub within : IsWithin r script

-- A script can be played.
pub record CanPlay (script : Script) : Type 0 where
  pub runs : IsRunnable script
  pub few : length script.events ≤ 99999

-- The bytes of a file mean a stack, over which so many members have room, and a script has this report.
pub record Reports (file : List ℕ) (members : ℕ) (script : Script) (report : List ℕ) : Type 0 where
  pub stack : List LayerTree
  pub means : Means file stack
  pub room : rows_of stack members ≤ most_rows
  pub is : report ≡ report_of stack script

-- An audit finds that these two lines of a report break a law.
abbrev pub IsBreach : Law → (report : List ℕ) → (first second : ℕ) → Type 0
IsBreach law report first second = audit_of law report ≡ Ok (Breach first second)

-- A text spells a script that is within what is asked for, and whose report over the stack of a file breaks the law.
pub record Breaks (r : Request) (file text : List ℕ) (b : Broken) : Type 0 where
  pub script : Script
  pub asked : IsAsked r text script
  pub reports : Reports file r.members script b.report.items
  pub breach : IsBreach r.law b.report.items b.first b.second

-- Two reports and their breaches are the same.
pub record AreSame (b b' : Broken) : Type 0 where
  pub report : b.report.items ≡ b'.report.items
  pub first : b.first ≡ b'.first
  pub second : b.second ≡ b'.second
