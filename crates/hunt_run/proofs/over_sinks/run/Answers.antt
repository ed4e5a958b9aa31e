use Rattle.job_ends.specs.Shown.{shown_end}
use Rattle.hunt_run.proofs.over_sinks.run.Goals as goal

pub returns : goal.returns
returns g c = record { end = shown_end c.perform-ending.result; came = c.perform-ending.ensures; said = c.say.ensures }
