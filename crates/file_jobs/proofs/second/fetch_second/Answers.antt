use Rattle.std.proofs.Common.{rules}
use Rattle.file_jobs.proofs.SecondStops.{large}
use Rattle.file_jobs.proofs.second.fetch_second.Goals as goal

pub returns-in-TooLong-clause-read : goal.returns-in-TooLong-clause-read
returns-in-TooLong-clause-read g c =
    large _ _ _ _ (rw c.in-TooLong.is at c.in_ok-read.ensures.answered) (search rules)
