-- How a job ends, by what its run answered.
use Rattle.std.specs.Prelude.{Result, Ok, Err}
use Rattle.end_mean.specs.Status.{Ended, done, second_refused, write_failed, no_memory, too_many_rows}
use Rattle.play_jobs.specs.declared.error.PlayError.{PlayError}
use Rattle.play_jobs.specs.declared.error.PlayError.TheVariants.{TooManyRows, Failed, Memory}

abbrev pub end_of : Result (Unit {0}) PlayError → Ended
end_of (Ok run) = done
end_of (Err TooManyRows) = second_refused too_many_rows
end_of (Err Failed) = write_failed
end_of (Err Memory) = no_memory
