-- That hoisted and simplified handlers use entry values only after they are made.
use Rattle.std.specs.Prelude.{◌≡◌, true, List}
use Rattle.trace_mean.specs.Trace.{Operation, Guarded}
use Rattle.guard_mean.specs.Prune.{hoist}
use Rattle.guard_mean.specs.Simplify.{simplified}
use Rattle.guard_mean.specs.Closed.{is_closed}

abbrev pub HoistedIsClosed : Type 0
HoistedIsClosed = (operations : List Operation) → is_closed (hoist operations) ≡ true

abbrev pub SimplifiedIsClosed : Type 0
SimplifiedIsClosed = (g : Guarded) → is_closed g ≡ true → is_closed (simplified g) ≡ true
