-- Bypasses that are made of the definition's traces, by a way of guarding these; and that they are the stack's.
use Rattle.std.specs.Prelude.{◌≡◌, true, if◌then◌else◌, List, map, Option, Some, None, Result, Ok, Err}
use Rattle.layer_mean.specs.declared.run.Case.{Case}
use Rattle.layer_mean.specs.declared.run.Case.TheVariants.{First, Second}
use Rattle.layer_mean.specs.Tree.{LayerTree}
use Rattle.stack_mean.specs.Acceptance.{acceptance}
use Rattle.stack_mean.specs.NoShape.{NoShape}
use Rattle.stack_mean.specs.Shape.{shape, has_second_case}
use Rattle.chain_laws.specs.Runs.{TypedStack}
use Rattle.chain_laws.specs.Named.{NamedStack}
use Rattle.trace_mean.specs.Trace.{Operation, Guarded}
use Rattle.trace_mean.specs.Fuse.{trace_of}
use Rattle.guard_mean.specs.Prune.{hoist}
use Rattle.guard_mean.specs.Reduced.{is_reduced}
use Rattle.guard_mean.specs.Simplify.{simplified}
use Rattle.bypass_mean.specs.Bypasses.{Entry, entries_of, Made, fused, absent, Bypasses}
use Rattle.bypass_laws.specs.Stack.{lack_of, IsGuard, AreOfStack}

-- What is made of an entry in a case.
abbrev pub made_with : (List Operation → Guarded) → Option NoShape → Result (List Operation) NoShape → Made
made_with guard (Some reason) r = absent reason
made_with guard None (Ok trace) = fused trace (guard trace)
made_with guard None (Err reason) = absent reason

abbrev pub made_of : (List Operation → Guarded) → Case → List LayerTree → Entry → Made
made_of guard case stack e = made_with guard (lack_of (shape stack e.known case)) (trace_of case stack e.known e.fields)

abbrev pub second_of : (List Operation → Guarded) → List LayerTree → Entry → Option Made
second_of guard stack e = if has_second_case stack e.known then Some (made_of guard Second stack e) else None

abbrev pub bypasses_of : (List Operation → Guarded) → List LayerTree → Bypasses
bypasses_of guard stack = record {
  made = map (made_of guard First stack) (entries_of stack);
  second = map (second_of guard stack) (entries_of stack);
}

-- A way of guarding that gives a guarded handler of each trace of a stack.
abbrev pub Guards : (List Operation → Guarded) → List LayerTree → Type 0
Guards guard stack = (case : Case) (e : Entry) (trace : List Operation) → trace_of case stack e.known e.fields ≡
    Ok trace →
    IsGuard stack e trace (guard trace)

-- A way of guarding that leaves nothing to make simpler.
abbrev pub Reduces : (List Operation → Guarded) → Type 0
Reduces guard = (operations : List Operation) → is_reduced (guard operations) ≡ true

-- A stack of typed layers that name only what is there, and that is accepted.
pub record IsSound (stack : List LayerTree) : Type 0 where
  pub typed : TypedStack stack
  pub named : NamedStack stack
  pub accepts : acceptance stack ≡ Ok stack

-- So what is made of it is its own.
abbrev pub MadeAreOfStack : Type 0
MadeAreOfStack = (guard : List Operation → Guarded) (stack : List LayerTree) → IsSound stack → Guards guard stack →
    Reduces guard →
    AreOfStack stack (bypasses_of guard stack)

-- Hoisting is such a way, and so is simplifying after such a way.
abbrev pub HoistingGuards : Type 0
HoistingGuards = (stack : List LayerTree) → NamedStack stack → Guards hoist stack

abbrev pub SimplifyingGuards : Type 0
SimplifyingGuards = (guard : List Operation → Guarded) (stack : List LayerTree) → Guards guard stack →
    Guards (λ operations. simplified (guard operations)) stack

-- So traces with their hoisted and simplified handlers are a stack's bypasses.
abbrev pub simplest : List Operation → Guarded
simplest operations = simplified (hoist operations)

abbrev pub SimplestAreOfStack : Type 0
SimplestAreOfStack = (stack : List LayerTree) → IsSound stack → AreOfStack stack (bypasses_of simplest stack)
