-- What a hunt over the bytes of a stack file answers, and its writing.
use Rattle.std.specs.Prelude.{◌≡◌, ℕ, ◌<◌, ◌≤◌, ◌-◌, Bool, true, false, List, [], ◌∷◌, Option, Some, None, Result, Ok}
use Rattle.std.specs.Prelude.{Err}
use Rattle.std.specs.Prelude.{if◌then◌else◌}
use Rattle.std.specs.List.{concat}
use Rattle.end_mean.specs.Status.{Ended, done, breached, file_refused, second_refused, too_many_rows, read_failed}
use Rattle.end_mean.specs.Status.{write_failed, no_memory}
use Rattle.layer_mean.specs.Tree.{LayerTree}
use Rattle.outside.specs.Lines.{Begins, Fails, Gains}
use Rattle.outside.specs.Shelf.{Shelved}
use Rattle.outside.specs.Tells.{Tells}
use Rattle.output_mean.specs.Judged.{Means, Refuses}
use Rattle.stack_mean.specs.Acceptance.{most_rows, rows_of}
use Rattle.file_jobs.specs.Stack.{IsMissed, IsText}
use Rattle.job_ends.specs.Shown.{shown_end}
use Rattle.job_ends.specs.declared.ending.Ending.{Ending}
use Rattle.hunt_mean.specs.Ends.{IsOutput, holds_line}
use Rattle.hunt_mean.specs.Find.{IsFind}
use Rattle.hunt_mean.specs.Words.{Request}
use Rattle.hunt_run.specs.declared.hunt.Output.{Output}

-- How a hunt ends whose output this is.
abbrev pub end_of : Output → Ended
end_of o = if o.is_breach then breached else done

-- Runs over a stack over which members have room found nothing, or a find; else memory ran out.
abbrev pub Goes : Request → (file : List ℕ) → Result Output Ending → Type 0
Goes r file (Ok o) =
    (stack : List LayerTree) → Means file stack → rows_of stack r.members ≤ most_rows →
    IsOutput r (end_of o) file o.text
Goes r file (Err ending) = shown_end ending ≡ no_memory

-- What is told where no breach was found is how many runs the search made.
abbrev pub Counts : (made made_after : ℕ) → Result Output Ending → Type 0
Counts made made_after (Ok o) = o.is_breach ≡ false → o.text ≡ holds_line (made_after - made)
Counts made made_after (Err ending) = Unit {0}

-- A run found nothing that its bytes confirm, or a find; else memory ran out.
abbrev pub Makes : Request → (file : List ℕ) → Result (Option (List ℕ)) Ending → Type 0
Makes r file (Ok (Some text)) = IsFind r file text
Makes r file (Ok None) = Unit {0}
Makes r file (Err ending) = shown_end ending ≡ no_memory

-- What is told where no run broke the law.
abbrev pub IsHeldLine : (runs : ℕ) → Result Output Ending → Type 0
IsHeldLine runs (Ok o) = (o.text ≡ holds_line runs) × (o.is_breach ≡ false)
IsHeldLine runs (Err ending) = shown_end ending ≡ no_memory

-- The bytes of a file mean a stack whose members would keep too many rows.
pub record AreCrowded (r : Request) (file : List ℕ) : Type 0 where
  pub stack : List LayerTree
  pub means : Means file stack
  pub crowded : most_rows < rows_of stack r.members

-- Why nothing is written over the bytes of a file.
abbrev pub Stops : Request → (file : List ℕ) → Ended → Type 0
Stops r file (file_refused fault) = Refuses file fault
Stops r file (second_refused too_many_rows) = AreCrowded r file
Stops r file no_memory = Unit {0}
Stops r file _ = ⊥

-- What a hunt writes over the bytes of a file, or why it writes nothing.
abbrev pub Looks : Request → (file : List ℕ) → Result Output Ending → Type 0
Looks r file (Ok o) = IsOutput r (end_of o) file o.text
Looks r file (Err ending) = Stops r file (shown_end ending)

-- What a hunt writes over the file that the next read found.
pub record IsFetched (r : Request) (told : Option Shelved) (reads reads_after : ℕ) (o : Output) : Type 0 where
  pub file : List ℕ
  pub read : IsText r.file told reads reads_after file
  pub output : IsOutput r (end_of o) file o.text

pub record IsStopped (r : Request) (told : Option Shelved) (reads reads_after : ℕ) (end : Ended) : Type 0 where
  pub file : List ℕ
  pub read : IsText r.file told reads reads_after file
  pub stops : Stops r file end

-- How the program ends where it writes nothing.
abbrev pub StopsAt : Request → Option Shelved → (reads reads_after : ℕ) → Ended → Type 0
StopsAt r told reads reads_after (file_refused fault) = IsStopped r told reads reads_after (file_refused fault)
StopsAt r told reads reads_after (second_refused too_many_rows) =
    IsStopped r told reads reads_after (second_refused too_many_rows)
StopsAt r told reads reads_after read_failed = IsMissed r.file told reads reads_after
StopsAt r told reads reads_after no_memory = Unit {0}
StopsAt r told reads reads_after _ = ⊥

abbrev pub Fetches : Request → Option Shelved → (reads reads_after : ℕ) → Result Output Ending → Type 0
Fetches r told reads reads_after (Ok o) = IsFetched r told reads reads_after o
Fetches r told reads reads_after (Err ending) = StopsAt r told reads reads_after (shown_end ending)

-- An output was written in one put, or the put failed, or memory ran out.
abbrev pub Writes : (text : List ℕ) → (is_breach : Bool) → Tells → Tells → Ended → Type 0
Writes text false old new done = Gains old new (text ∷ [])
Writes text true old new breached = Gains old new (text ∷ [])
Writes text is_breach old new write_failed = Fails old new (text ∷ [])
Writes text is_breach old new no_memory = Begins old new (concat (text ∷ []))
Writes text is_breach old new _ = ⊥
