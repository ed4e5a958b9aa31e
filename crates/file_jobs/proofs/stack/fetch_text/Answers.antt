use Rattle.std.proofs.Common.{rules}
use Rattle.file_jobs.proofs.Stops.{large_file}
use Rattle.file_jobs.proofs.stack.fetch_text.Goals as goal

pub returns-in-TooLong-clause-read : goal.returns-in-TooLong-clause-read
returns-in-TooLong-clause-read g c =
    large_file _ _ _ _ (rw (c.in-TooLong.is, c.from.ensures) at c.in_ok-read.ensures.answered) (search rules)
