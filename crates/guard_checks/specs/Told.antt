-- What an entry lacks, in both cases.
use Rattle.std.specs.Prelude.{List, None, option_map}
use Rattle.layer_mean.specs.State.{State}
use Rattle.trace_mean.specs.Worth.{Input}
use Rattle.lack_mean.specs.Lacks as lack
use Rattle.lack_mean.specs.Lacks.{Entry, Miss}
use Rattle.miss_laws.specs.Asked.{lack_at}
use Rattle.guard_checks.specs.Trees.{EntryAsked}

abbrev pub entry_lacks : Entry → Input → List State → EntryAsked → Miss
entry_lacks e i states asked =
    record { entry = e; first = lack_at i states asked.first; second = option_map (lack_at i states) asked.second }

-- Without an entry a plan is lacking.
abbrev pub lacks_plan : Entry → Miss
lacks_plan e = record { entry = e; first = lack.no_plan; second = None }
