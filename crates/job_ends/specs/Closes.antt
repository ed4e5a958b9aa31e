-- How a job ends over streams, which are handed what was put.
use Rattle.std.specs.Prelude.{ℕ, Bool, true, false}
use Rattle.end_mean.specs.Status.{Ended, done, breached, write_failed}
use Rattle.outside.specs.Said.{errors}
use Rattle.outside.specs.Tells.{Tells}
use Rattle.program_streams.specs.Streams.{HandsOn, Stream}
use Rattle.job_ends.specs.Shown.{Said}

-- How a job ended, by whether the output's stream got all that was put; where it lacks something, a whole output is a
-- fault of writing.
abbrev pub end_after_delivery : Bool → Ended → Ended
end_after_delivery false done = write_failed
end_after_delivery false breached = write_failed
end_after_delivery _ end = end

-- What followed when a job that ended so had put all: what was handed on to the output's stream; and what was said
-- then of the end that follows from both, and handed on to the standard error's stream.
pub record Closes (end : Ended) (out err : Stream) (status : ℕ) : Type 0 where
  pub whole : Bool
  pub handed_on : HandsOn out.before out.after out.holds whole
  pub closing : Tells
  pub said : Said (end_after_delivery whole end) (errors err.before closing status)
  pub heard : Bool
  pub told_on : HandsOn closing err.after err.holds heard
