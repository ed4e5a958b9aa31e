-- Of which part of a trace its guard is made.
use Rattle.std.specs.Prelude.{◌≡◌, Bool, false, not, ◌||◌, if◌then◌else◌, List, [], ◌∷◌}
use Rattle.trace_mean.specs.Trace.{Operation}
use Rattle.trace_mean.specs.Follow.{is_done, unchecked}
use Rattle.guard_mean.specs.Hoist.{hoisted}
use Rattle.guard_mean.specs.Prune.{pruned, hoist}

-- Whether one of these operations is a check.
abbrev pub has_check : List Operation → Bool
has_check [] = false
has_check (o ∷ operations) = not (is_done o) || has_check operations

-- The operations up to the last check, none where there is no check.
abbrev pub to_last_check : List Operation → List Operation
to_last_check [] = []
to_last_check (o ∷ operations) = if has_check (o ∷ operations) then o ∷ to_last_check operations else []

-- The guard of a trace is made of its operations up to the last check: carrying those after it adds nothing.
abbrev pub GuardsEndWithChecks : Type 0
GuardsEndWithChecks = (operations : List Operation) →
    pruned (record (hoisted (to_last_check operations)) { operations = unchecked operations }) ≡ hoist operations
