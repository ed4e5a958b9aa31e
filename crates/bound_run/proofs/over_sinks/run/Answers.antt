use Rattle.bound_run.specs.Shown.{shown_finish}
use Rattle.bound_run.proofs.over_sinks.run.Goals as goal

pub returns : goal.returns
returns g c = record {
  finish = shown_finish c.perform-finish.result;
  came = c.perform-finish.ensures;
  said = c.say_finish.ensures;
}
