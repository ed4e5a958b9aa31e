-- Operations without their checks, on states on which these all pass.
use Rattle.std.specs.Prelude.{◌≡◌, List}
use Rattle.layer_mean.specs.Tree.{LayerTree}
use Rattle.layer_mean.specs.State.{State}
use Rattle.trace_mean.specs.Trace.{Operation}
use Rattle.trace_mean.specs.Worth.{Input}
use Rattle.trace_mean.specs.Follow.{Trail, on, before, reached, follow, follows, perform, unchecked}
use Rattle.trace_laws.specs.Safe.{SafeTrace}

-- Where a trace is followed to its end, and safely, its operations without checks are too, and leave the same but for
-- the count of checks.
pub record GoesUnchecked (stack : List LayerTree) (i : Input) (operations : List Operation) (states : List State)
    (u : Trail) : Type 0 where
  pub answer : follow i (unchecked operations) states ≡ reached u.states u.outs
  pub performed : perform i (unchecked operations) states ≡ record u { checks = 0 }
  pub safe : SafeTrace stack i (unchecked operations) (on (before states))

abbrev pub ChecksCanGo : Type 0
ChecksCanGo = (stack : List LayerTree) (i : Input) (operations : List Operation) (states : List State) (u : Trail) →
    follows i operations (on (before states)) ≡ on u → SafeTrace stack i operations (on (before states)) →
    GoesUnchecked stack i operations states u
