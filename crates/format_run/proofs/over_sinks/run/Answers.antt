use Rattle.format_run.proofs.Due.{does}
use Rattle.format_run.proofs.over_sinks.run.Goals as goal

pub returns : goal.returns
returns g c = does _ _ c.perform-ending.result _ c.perform-ending.ensures c.say.ensures
