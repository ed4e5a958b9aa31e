-- That code does what its guarded handler does.
use Rattle.std.specs.Prelude.{◌≡◌, List}
use Rattle.layer_mean.specs.State.{State}
use Rattle.trace_mean.specs.Trace.{Guarded}
use Rattle.trace_mean.specs.Worth.{Input}
use Rattle.guard_mean.specs.Perform.{performed}
use Rattle.guard_mean.specs.Machine.{run_code}
use Rattle.guard_mean.specs.Straight.{code_of}

-- Its tests are passed where the guard holds, and its steps then end with the same states and outputs.
abbrev pub CodeIsSame : Type 0
CodeIsSame = (g : Guarded) (i : Input) (states : List State) → run_code i (code_of g) states ≡ performed i g states
