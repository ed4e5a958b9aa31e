-- That a guard holds exactly where all checks of its trace are passed, and that the operations then do what following
-- does.
use Rattle.std.specs.Prelude.{◌≡◌, List}
use Rattle.layer_mean.specs.State.{State}
use Rattle.trace_mean.specs.Trace.{Operation}
use Rattle.trace_mean.specs.Worth.{Input}
use Rattle.trace_mean.specs.Follow.{on, before, follow}
use Rattle.guard_mean.specs.Perform.{answer_end, performed}
use Rattle.guard_mean.specs.Prune.{hoist}
use Rattle.guard_laws.specs.Sound.{Squares, Sound}

abbrev pub HoistedIsSame : Type 0
HoistedIsSame = (sq : Squares) (i : Input) (states : List State) (operations : List Operation) →
    Sound sq i operations (on (before states)) →
    performed i (hoist operations) states ≡ answer_end (follow i operations states)
