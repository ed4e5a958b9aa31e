-- That simplified guarded handlers do the same, and can't be made simpler.
use Rattle.std.specs.Prelude.{◌≡◌, true, List}
use Rattle.layer_mean.specs.State.{State}
use Rattle.trace_mean.specs.Trace.{Guarded}
use Rattle.trace_mean.specs.Worth.{Input}
use Rattle.trace_mean.specs.Follow.{perform}
use Rattle.guard_mean.specs.Perform.{holds}
use Rattle.guard_mean.specs.Simplify.{simplified}
use Rattle.guard_mean.specs.Reduced.{is_reduced}

-- On all states and inputs it holds where it held, and its operations do what they did.
abbrev pub SimplifiedIsSame : Type 0
SimplifiedIsSame = (g : Guarded) (i : Input) (states : List State) →
    (holds i (simplified g) states ≡ holds i g states) ×
    (perform i (simplified g).operations states ≡ perform i g.operations states)

-- What was simplified can't be made simpler.
abbrev pub SimplifiedIsReduced : Type 0
SimplifiedIsReduced = (g : Guarded) → is_reduced (simplified g) ≡ true
