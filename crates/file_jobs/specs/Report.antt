-- What the read of a report gives.
use Rattle.std.specs.Prelude.{◌≡◌, ℕ, List, [], ◌∷◌, Option, Some, IfSome, Result, Ok, Err, if◌then◌else◌}
use Rattle.std.specs.String.{string_bytes}
use Rattle.clap.specs.Walk.{Text}
use Rattle.outside.specs.Shelf.{Shelved, found_in}
use Rattle.audit_mean.specs.Finding.{AuditFault, audit_of}
use Rattle.audit_mean.specs.declared.law.Law.{Law}
use Rattle.end_mean.specs.Status.{Ended, done, breached, report_refused, read_failed, no_memory}
use Rattle.program_mean.specs.Headline.{end_found}
use Rattle.job_ends.specs.Comes.{Audited}
use Rattle.job_ends.specs.Shown.{shown_end}
use Rattle.job_ends.specs.declared.ending.Ending.{Ending}
use Rattle.file_jobs.specs.Stack.{IsMissed}
use Rattle.file_jobs.specs.declared.judged.Output.{Output}

-- What an audit with this output writes over the bytes of its report, and how it ends.
pub record Finds (law : Law) (text : List ℕ) (o : Output) : Type 0 where
  pub output : Audited text law (string_bytes o.line ∷ [])
  pub ends : end_found (audit_of law text) ≡ (if o.breach then breached else done)

-- Why the bytes of a report are refused.
abbrev pub Refused : Law → List ℕ → Ended → Type 0
Refused law text (report_refused fault) = audit_of law text ≡ Err fault
Refused law text no_memory = Unit {0}
Refused law text _ = ⊥

abbrev pub Judges : Law → List ℕ → Result Output Ending → Type 0
Judges law text (Ok o) = Finds law text o
Judges law text (Err ending) = Refused law text (shown_end ending)

-- The next read of this name found a report on which the law gives this output.
pub record IsReport (name : Text) (law : Law) (told : Option Shelved) (reads reads_after : ℕ) (o : Output) : Type 0
  where
    pub file : List ℕ
    pub found : IfSome told (λ shelf. found_in shelf name ≡ Some file)
    pub finds : Finds law file o
    pub sound : reads_after ≡ reads

-- The next read of this name found a file that is no report, for this fault.
pub record IsNone (name : Text) (law : Law) (told : Option Shelved) (reads reads_after : ℕ) (fault : AuditFault) : Type
    0 where
  pub file : List ℕ
  pub found : IfSome told (λ shelf. found_in shelf name ≡ Some file)
  pub refused : audit_of law file ≡ Err fault
  pub sound : reads_after ≡ reads

-- An audit ends so at its file.
abbrev pub StopsAt : Text → Law → Option Shelved → (reads reads_after : ℕ) → Ended → Type 0
StopsAt name law told reads reads_after (report_refused fault) = IsNone name law told reads reads_after fault
StopsAt name law told reads reads_after read_failed = IsMissed name told reads reads_after
StopsAt name law told reads reads_after no_memory = Unit {0}
StopsAt name law told reads reads_after _ = ⊥

-- The output over the report that was read, or how the audit ends.
abbrev pub Fetches : Text → Law → Option Shelved → (reads reads_after : ℕ) → Result Output Ending → Type 0
Fetches name law told reads reads_after (Ok o) = IsReport name law told reads reads_after o
Fetches name law told reads reads_after (Err ending) = StopsAt name law told reads reads_after (shown_end ending)
