-- A stack file that was read and judged.
use Rattle.std.proofs.Common.{ℕ, List, Option}
use Rattle.std.specs.Prelude.{Result, Ok, Err}
use Rattle.clap.specs.Walk.{Text}
use Rattle.outside.specs.Shelf.{Shelved}
use Rattle.stack_judge.specs.declared.stack.Stack.{Stack}
use Rattle.end_mean.specs.Status.{Ended, file_refused, no_memory}
use Rattle.job_ends.specs.Shown.{shown_end}
use Rattle.job_ends.specs.declared.ending.Ending.{Ending}
use Rattle.file_jobs.specs.declared.stack.StackFile.{StackFile}
use Rattle.file_jobs.specs.Stack.{IsText, StopsAt, Fetches, FetchesFile, Refused, JudgesStack, JudgesFile}

module _ (name : Text) (told : Option Shelved) (reads reads_after : ℕ) (text : List ℕ) where
  stopped : (end : Ended) → IsText name told reads reads_after text → Refused text end →
      StopsAt name told reads reads_after end
  stopped (file_refused fault) t j = record { file = text; found = t.found; refused = j; sound = t.sound }
  stopped no_memory t j = tt
  stopped _ t j = absurd j

  pub fetched : (r : Result Stack Ending) → IsText name told reads reads_after text → JudgesStack text r →
      Fetches name told reads reads_after r
  fetched (Ok stack) t j = record { file = text; found = t.found; means = j; sound = t.sound }
  fetched (Err ending) t j = stopped (shown_end ending) t j

  pub fetched_file : (r : Result StackFile Ending) → IsText name told reads reads_after text → JudgesFile text r →
      FetchesFile name told reads reads_after r
  fetched_file (Ok f) t j =
      record { is = record { file = text; found = t.found; means = j.means; sound = t.sound }; tree = j.tree }
  fetched_file (Err ending) t j = stopped (shown_end ending) t j
