use Rattle.std.proofs.Common.{rules}
use Rattle.file_jobs.proofs.Stops.{large_file}
use Rattle.hunt_run.proofs.over_sinks.fetch_text.Goals as goal

pub returns-in-TooLong : goal.returns-in-TooLong
returns-in-TooLong g c =
    large_file _ _ _ _ (rw (c.in-TooLong.is, c.from.ensures) at c.in_ok-read.ensures.answered) (search rules)
