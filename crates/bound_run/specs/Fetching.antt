-- What a check over the files that the next reads found gives.
use Rattle.std.specs.Prelude.{◌≡◌, ℕ, Option, Result, Ok, Err}
use Rattle.job_ends.specs.Comes.{surrounding}
use Rattle.job_ends.specs.Shown.{shown_end}
use Rattle.job_ends.specs.declared.ending.Ending.{Ending}
use Rattle.outside.specs.Shelf.{Shelved}
use Rattle.outside.specs.Tells.{Tells}
use Rattle.bound_mean.specs.Ends.{Checks, Good}
use Rattle.bound_mean.specs.Told.{ended}
use Rattle.bound_mean.specs.Words.{Request}
use Rattle.bound_run.specs.Shown.{finish_for}
use Rattle.bound_run.specs.declared.output.Output.{Output}

-- What is written over the files that were found.
pub record IsFetched (r : Request) (told : Option Shelved) (reads reads_after : ℕ) (o : Output) : Type 0 where
  pub good : Good r told reads reads_after (finish_for o.kind)
  pub text_is : good.text ≡ o.text

-- Or how the program ends where it writes nothing.
abbrev pub Fetches : Request → Option Shelved → (reads reads_after : ℕ) → Result Output Ending → Type 0
Fetches r told reads reads_after (Ok o) = IsFetched r told reads reads_after o
Fetches r told reads reads_after (Err ending) =
    (output : Tells) → Checks r (surrounding told reads reads_after output output) (ended (shown_end ending))
