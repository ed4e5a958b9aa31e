-- When each status is due, but for want of memory.
use Rattle.std.specs.Prelude.{◌≡◌, ◌⊎◌, ℕ, Some}
use Rattle.outside.specs.Count.{Rose}
use Rattle.outside.specs.Shelf.{Shelved}
use Rattle.job_mean.specs.Job.{Job}
use Rattle.end_mean.specs.Status.{Ended, done, breached, file_refused, report_refused, second_refused, traces_refused}
use Rattle.end_mean.specs.Status.{read_failed, status_number}
use Rattle.program_mean.specs.Headline.{whole_end}
use Rattle.outside.specs.Lines.{Gains}
use Rattle.job_ends.specs.Comes.{Around, Good, BadFile, BadReport, BadSecond, BadTraces, Unfound}

-- The status that is due came, or memory ran out.
abbrev pub Due : ℕ → ℕ → Type 0
Due due status = (status ≡ due) ⊎ (status ≡ 7)

-- The output's count of faults didn't rise, nor does it stand at its last value.
abbrev pub NoPutFailed : Around → Type 0
NoPutFailed a = Rose a.output.faults a.output_after.faults → ⊥

-- What a job's reads find on this shelf calls for an end.
abbrev pub CallsFor : Job → Around → Shelved → Ended → Type 0
CallsFor job a shelf done = ((good : Good job (Some shelf)) × (whole_end job good.file ≡ done)) × NoPutFailed a
CallsFor job a shelf breached = ((good : Good job (Some shelf)) × (whole_end job good.file ≡ breached)) × NoPutFailed a
CallsFor job a shelf (file_refused fault) = BadFile job (Some shelf) fault
CallsFor job a shelf (report_refused fault) = BadReport job (Some shelf) fault
CallsFor job a shelf (second_refused fault) = BadSecond job (Some shelf) fault
CallsFor job a shelf (traces_refused fault) = BadTraces job (Some shelf) fault
CallsFor job a shelf read_failed = Unfound job (Some shelf)
CallsFor job a shelf _ = ⊥

-- Where the shelf tells, each end comes where what it finds calls for it: 1 where the file is found and refused, 3
-- where it is good and the second file is found and refused or the members have too many rows, 9 where both are good
-- and a file of traces is found and refused, 4 where one isn't found; and where they are found and good and no put
-- failed, 0, or 8 where an audit finds a breach, and the output gained all lines.
pub record Exact (job : Job) (a : Around) (status : ℕ) : Type 0 where
  pub due : (shelf : Shelved) (end : Ended) → a.told ≡ Some shelf → CallsFor job a shelf end →
      Due (status_number end) status
  pub complete : (shelf : Shelved) (good : Good job (Some shelf)) → a.told ≡ Some shelf → NoPutFailed a →
      Gains a.output a.output_after good.lines ⊎ (status ≡ 7)
