-- Whether a trace is safe is told by its symbolic list.
use Rattle.std.specs.Prelude.{◌≡◌, List}
use Rattle.layer_mean.specs.State.{State}
use Rattle.layer_mean.specs.Tree.{LayerTree}
use Rattle.trace_mean.specs.Trace.{Operation}
use Rattle.trace_mean.specs.Worth.{Input}
use Rattle.trace_mean.specs.Follow.{on, before}
use Rattle.trace_laws.specs.Safe.{SafeTrace}
use Rattle.symbol_mean.specs.Symbolic.{symbolic}

-- Of two traces with one list, one is followed safely where the other is.
abbrev pub SameActsAreSafe : Type 0
SameActsAreSafe = (stack : List LayerTree) (a b : List Operation) → symbolic a ≡ symbolic b →
    (i : Input) (states : List State) →
    SafeTrace stack i a (on (before states)) → SafeTrace stack i b (on (before states))
