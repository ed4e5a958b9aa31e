use Rattle.std.proofs.Common.{rules}
use Rattle.play_jobs.proofs.Reading.{large_traces}
use Rattle.play_jobs.proofs.traces.fetch_traces.Goals as goal

pub returns : goal.returns
returns g c = large_traces _ _ _ _ _ (rw c.in-TooLong.is at c.in_ok-read.ensures.answered) (search rules)
