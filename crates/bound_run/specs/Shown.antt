-- How checks end, as the definitions see it.
use Rattle.std.specs.Prelude.{Result, Ok, Err}
use Rattle.end_mean.specs.Status.{done, breached, write_failed, no_memory}
use Rattle.outside.specs.declared.sink.SinkError.{SinkError}
use Rattle.outside.specs.declared.sink.SinkError.TheVariants as sink
use Rattle.job_ends.specs.Shown.{shown_end}
use Rattle.bound_mean.specs.Told as told
use Rattle.bound_run.specs.declared.finish.Finish.{Finish}
use Rattle.bound_run.specs.declared.finish.Finish.TheVariants.{Ended, Stopped}
use Rattle.bound_run.specs.declared.output.Kind.{Kind}
use Rattle.bound_run.specs.declared.output.Kind.TheVariants.{Held, HeldTo, Breach}

-- How a check ends, as the definitions have it.
abbrev pub shown_finish : Finish → told.Finish
shown_finish (Ended ending) = told.ended (shown_end ending)
shown_finish Stopped = told.stopped

-- How a check ends whose whole output tells this.
abbrev pub finish_for : Kind → told.Finish
finish_for Held = told.ended done
finish_for HeldTo = told.stopped
finish_for Breach = told.ended breached

-- And how it ends by how the output was put.
abbrev pub finish_put : Kind → Result (Unit {0}) SinkError → told.Finish
finish_put kind (Ok put) = finish_for kind
finish_put kind (Err sink.Failed) = told.ended write_failed
finish_put kind (Err sink.Memory) = told.ended no_memory
