-- What the read of a second file gives: a script, or a plan of a node.
use Rattle.std.specs.Prelude.{◌≡◌, ℕ, ◌<◌, List, length, Option, Some, IfSome, Result, Ok, Err}
use Rattle.std.specs.declared.alloc.Global.{Global}
use Rattle.std.specs.declared.vec.Vec.{Vec}
use Rattle.clap.specs.Walk.{Text}
use Rattle.outside.specs.Shelf.{Shelved, found_in}
use Rattle.script_mean.specs.Script.{ScriptFault, too_long, bad_line, no_member}
use Rattle.script_text.specs.declared.error.ScriptError.{ScriptError}
use Rattle.script_text.specs.declared.error.ScriptError.TheVariants.{TooLong, BadLine, NoMember, Memory}
use Rattle.end_mean.specs.Status.{Ended, second_refused, read_failed, no_memory, misspelled}
use Rattle.file_jobs.specs.Stack.{IsMissed, IsText}
use Rattle.job_ends.specs.Shown.{shown_end}
use Rattle.job_ends.specs.declared.ending.Ending.{Ending}
use Rattle.script_text.specs.declared.reading.TheConstants.{LONGEST_SCRIPT}

-- The most bytes of a second file.
abbrev pub longest_second : ℕ
longest_second = LONGEST_SCRIPT

-- The next read of this name found a text of too many bytes.
pub record IsLarge (name : Text) (told : Option Shelved) (reads reads_after : ℕ) : Type 0 where
  pub text : List ℕ
  pub large : longest_second < length text
  pub is : IsText name told reads reads_after text

-- A job ends so as it reads its second file.
abbrev pub Unread : Text → Option Shelved → (reads reads_after : ℕ) → Ended → Type 0
Unread name told reads reads_after (second_refused (misspelled too_long)) = IsLarge name told reads reads_after
Unread name told reads reads_after read_failed = IsMissed name told reads reads_after
Unread name told reads reads_after no_memory = Unit {0}
Unread name told reads reads_after _ = ⊥

-- The text that was read, or how the job ends.
abbrev pub Reads : Text → Option Shelved → (reads reads_after : ℕ) → Result (Vec ℕ Global) Ending → Type 0
Reads name told reads reads_after (Ok text) = IsText name told reads reads_after text.items
Reads name told reads reads_after (Err ending) = Unread name told reads reads_after (shown_end ending)

-- The next read of this name found a text that spells this, and that can be run.
pub record IsSpelled {A : Type 0} (spelled : List ℕ → Result A ScriptFault) (Runs : A → Type 0) (name : Text)
    (told : Option Shelved)
    (reads reads_after : ℕ) (value : A) : Type 0 where
  pub text : List ℕ
  pub found : IfSome told (λ shelf. found_in shelf name ≡ Some text)
  pub spells : spelled text ≡ Ok value
  pub runs : Runs value
  pub sound : reads_after ≡ reads

-- The next read of this name found a text that is refused for this fault.
pub record IsRefused {A : Type 0} (spelled : List ℕ → Result A ScriptFault) (name : Text) (told : Option Shelved)
    (reads reads_after : ℕ)
    (fault : ScriptFault) : Type 0 where
  pub text : List ℕ
  pub found : IfSome told (λ shelf. found_in shelf name ≡ Some text)
  pub refused : spelled text ≡ Err fault
  pub sound : reads_after ≡ reads

-- A job ends so at its second file.
abbrev pub StopsAt : {A : Type 0} → (List ℕ → Result A ScriptFault) → Text → Option Shelved → (reads reads_after : ℕ) →
    Ended → Type 0
StopsAt spelled name told reads reads_after (second_refused (misspelled fault)) =
    IsRefused spelled name told reads reads_after fault
StopsAt spelled name told reads reads_after read_failed = IsMissed name told reads reads_after
StopsAt spelled name told reads reads_after no_memory = Unit {0}
StopsAt spelled name told reads reads_after _ = ⊥

-- What was read, or how the job ends.
abbrev pub Fetches : {A : Type 0} → (List ℕ → Result A ScriptFault) → (A → Type 0) → Text → Option Shelved →
    (reads reads_after : ℕ) →
    Result A Ending → Type 0
Fetches spelled Runs name told reads reads_after (Ok value) = IsSpelled spelled Runs name told reads reads_after value
Fetches spelled Runs name told reads reads_after (Err ending) =
    StopsAt spelled name told reads reads_after (shown_end ending)

-- What a text spells, or its fault.
abbrev pub Refused : {A : Type 0} → (List ℕ → Result A ScriptFault) → List ℕ → Ended → Type 0
Refused spelled text (second_refused (misspelled fault)) = spelled text ≡ Err fault
Refused spelled text no_memory = Unit {0}
Refused spelled text _ = ⊥

abbrev pub Judges : {A : Type 0} → (List ℕ → Result A ScriptFault) → (A → Type 0) → List ℕ → Result A Ending → Type 0
Judges spelled Runs text (Ok value) = (spelled text ≡ Ok value) × Runs value
Judges spelled Runs text (Err ending) = Refused spelled text (shown_end ending)

-- How a job ends whose second file a reader refuses.
abbrev pub refused_as : ScriptError → Ended
refused_as TooLong = second_refused (misspelled too_long)
refused_as (BadLine line) = second_refused (misspelled (bad_line line))
refused_as (NoMember line) = second_refused (misspelled (no_member line))
refused_as Memory = no_memory
