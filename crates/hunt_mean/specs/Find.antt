-- What a hunt finds: a script whose report breaks a law of the group.
use Rattle.std.specs.Prelude.{◌≡◌, ℕ, ◌-◌, ◌==◌, ◌≤◌, List, [], ◌++◌, codes, length, slice_index_or, Ok}
use Rattle.std.specs.Fmt.{decimal}
use Rattle.std.specs.List.{concat, slice_split}
use Rattle.audit_mean.specs.Finding.{audit_of}
use Rattle.audit_mean.specs.declared.law.Law.{Law}
use Rattle.audit_mean.specs.declared.law.Law.TheVariants.{Sender, Total, Same}
use Rattle.audit_mean.specs.declared.law.Finding.TheVariants.{Breach}
use Rattle.layer_mean.specs.Tree.{LayerTree}
use Rattle.output_mean.specs.Judged.{Means}
use Rattle.run_mean.specs.Report.{report_lines}
use Rattle.script_mean.specs.Script.{script_of}
use Rattle.script_mean.specs.declared.script.Script.{Script}
use Rattle.stack_mean.specs.Acceptance.{most_rows, rows_of}
use Rattle.stack_mean.specs.Plans.{plans_of}
use Rattle.hunt_mean.specs.Words.{Request}

-- The bytes of the report of a script over a stack, which knows of no mode.
abbrev pub report_of : List LayerTree → Script → List ℕ
report_of stack script = concat (report_lines stack (plans_of stack) script)

-- The line of a text with this number, the first being 1, without its line feed (10).
abbrev pub numbered_line : List ℕ → ℕ → List ℕ
numbered_line text number = slice_index_or (slice_split (λ byte. byte == 10) text) (number - 1) []

-- A law, as words name it.
abbrev pub law_word : Law → List ℕ
law_word Sender = codes "sender"
law_word Total = codes "total"
law_word Same = codes "same"

-- A comment that tells a line of a report.
abbrev pub told_line : List ℕ → ℕ → List ℕ
told_line report number = codes "# line " ++ decimal number ++ codes ": " ++ numbered_line report number ++ codes "\n"

-- The comments that tell which law a report breaks, and by which two lines.
abbrev pub told_breach : Law → List ℕ → (first second : ℕ) → List ℕ
told_breach law report first second =
    codes "# breaks " ++ law_word law ++ codes "\n" ++ told_line report first ++ told_line report second

-- The bytes of a file mean a stack, over which members have room, and a text spells a script with no more members and
-- events than were asked for, over whose report the audit has a breach of the law; the text begins with comments that
-- tell of it.
pub record IsFind (request : Request) (file text : List ℕ) : Type 0 where
  pub stack : List LayerTree
  pub means : Means file stack
  pub room : rows_of stack request.members ≤ most_rows
  pub script : Script
  pub spells : script_of text ≡ Ok script
  pub members : script.members ≤ request.members
  pub events : length script.events ≤ request.events
  pub first : ℕ
  pub second : ℕ
  pub breach : audit_of request.law (report_of stack script) ≡ Ok (Breach first second)
  pub rest : List ℕ
  pub told : text ≡ told_breach request.law (report_of stack script) first second ++ rest
