-- The job of words by either command.
use Rattle.std.specs.Prelude.{List, Option}
use Rattle.clap.specs.Walk.{Text}
use Rattle.script_mean.specs.Words.{◌>>=◌}
use Rattle.job_mean.specs.Given.{given_of, telling_of}
use Rattle.job_mean.specs.Job.{Job, job, telling_job}

-- by that of all jobs
abbrev pub job_of_all : List Text → Option Job
job_of_all words = given_of words >>= job

-- by that of a replay which tells its events
abbrev pub telling_job_of : List Text → Option Job
telling_job_of words = telling_of words >>= telling_job
