use Rattle.std.proofs.Common.{rules}
use Rattle.file_jobs.proofs.Stops.{large_report}
use Rattle.file_jobs.proofs.report.fetch_report.Goals as goal

pub returns : goal.returns
returns g c = large_report _ _ _ _ _ (rw c.in-TooLong.is at c.in_ok-read.ensures.answered) (search rules)
