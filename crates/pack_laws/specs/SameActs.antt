-- What following a trace gives is told by its symbolic list.
use Rattle.std.specs.Prelude.{◌≡◌, List}
use Rattle.layer_mean.specs.State.{State}
use Rattle.trace_mean.specs.Trace.{Operation}
use Rattle.trace_mean.specs.Worth.{Input}
use Rattle.trace_mean.specs.Follow.{follow}
use Rattle.symbol_mean.specs.Symbolic.{symbolic}

-- Traces with one list are followed alike, on all states and inputs: they reach the same states and outputs, or stop at
-- the same check.
abbrev pub SameActsFollowAlike : Type 0
SameActsFollowAlike = (a b : List Operation) → symbolic a ≡ symbolic b → (i : Input) (states : List State) →
    follow i a states ≡ follow i b states
