use Rattle.std.proofs.Common.{refl, map}
use Rattle.std.specs.String.{string_bytes}
use Rattle.job_ends.specs.Shown.{shown_end}
use Rattle.stackc_run.proofs.Performed.{does}
use Rattle.stackc_run.proofs.over_sinks.run.Goals as goal

pub returns : goal.returns
returns g c = does (map string_bytes c.args.words.now) _ refl _ _ _ (shown_end c.perform-ending.result)
    c.perform-ending.ensures c.say.ensures
