-- That the checks of a trace, asked at its entry, fail where following the trace stops.
use Rattle.std.specs.Prelude.{◌≡◌, ℕ, List, Option, Ok}
use Rattle.layer_mean.specs.State.{State}
use Rattle.layer_mean.specs.Tree.{LayerTree}
use Rattle.layer_mean.specs.declared.run.Case.{Case}
use Rattle.stack_mean.specs.Shape.{Known}
use Rattle.chain_laws.specs.Named.{NamedStack}
use Rattle.trace_mean.specs.Trace.{Operation, Guarded}
use Rattle.trace_mean.specs.Follow.{follow}
use Rattle.trace_mean.specs.Fuse.{trace_of}
use Rattle.trace_mean.specs.Worth.{Input}
use Rattle.trace_laws.specs.Right.{Enters}
use Rattle.guard_mean.specs.Hoist.{hoisted}
use Rattle.guard_mean.specs.Checks.{stop_of, first_unheld, checks_of, first_failing}
use Rattle.guard_laws.specs.LastCheck.{to_last_check}

-- The tests of a guarded handler's conjuncts find the first that doesn't hold.
abbrev pub ChecksFindUnheld : Type 0
ChecksFindUnheld = (g : Guarded) (i : Input) (states : List State) → first_failing i (checks_of g) states ≡
    first_unheld i g states

-- In layers that name only what is there, on the states and inputs of an entry, the first conjunct of its trace,
-- hoisted up to the last check, that doesn't hold has the number of the check at which following the trace stops; and
-- all hold where it stops at none.
abbrev pub UnheldStops : Type 0
UnheldStops = (case : Case) (stack : List LayerTree) (k : Known) (fields : List (Option ℕ))
    (operations : List Operation)
    (i : Input) (states : List State) → NamedStack stack → trace_of case stack k fields ≡ Ok operations →
    Enters stack k fields i states →
    first_unheld i (hoisted (to_last_check operations)) states ≡ stop_of (follow i operations states)
