-- When bypasses are a stack's.
use Rattle.std.specs.Prelude.{◌≡◌, ℕ, ◌≤◌, true, false, nat_le, if◌then◌else◌, List, length, Option, Some, None, Result}
use Rattle.std.specs.Prelude.{Ok, Err}
use Rattle.std.specs.List.{AllZip, list_all, sum_by}
use Rattle.layer_mean.specs.declared.run.Case.{Case}
use Rattle.layer_mean.specs.declared.run.Case.TheVariants.{First, Second}
use Rattle.layer_mean.specs.State.{State}
use Rattle.layer_mean.specs.Tree.{LayerTree}
use Rattle.stack_mean.specs.Acceptance.{most_joins}
use Rattle.stack_mean.specs.NoShape.{NoShape, long}
use Rattle.stack_mean.specs.Shape.{Shape, shape, has_second_case}
use Rattle.run_mean.specs.Common.{longest_shape}
use Rattle.trace_mean.specs.Trace.{Operation, set, set_square, push, take, Guarded}
use Rattle.trace_mean.specs.Worth.{Input}
use Rattle.trace_mean.specs.Follow.{on, before, follow, is_done}
use Rattle.trace_mean.specs.Counts.{trace_outputs, trace_joins}
use Rattle.trace_laws.specs.Safe.{SafeTrace}
use Rattle.trace_laws.specs.Right.{Enters, IsRight}
use Rattle.trace_form_laws.specs.Closed.{entry_reach, Closed}
use Rattle.trace_form_laws.specs.Entries.{entry_node}
use Rattle.trace_form_laws.specs.There.{AreThere}
use Rattle.trace_form_laws.specs.WellFormed.{IsWellFormed}
use Rattle.guard_mean.specs.Closed.{is_closed}
use Rattle.guard_mean.specs.Reduced.{is_reduced}
use Rattle.guard_mean.specs.Perform.{holds, answer_end, performed}
use Rattle.bypass_mean.specs.Bypasses.{Entry, entries_of, Made, fused, absent, Bypasses}

-- Why nothing is made of an entry in a case: the reason for which it has no shape, or that its shape is too long.
abbrev pub lack_of : Result Shape NoShape → Option NoShape
lack_of (Ok s) = if nat_le s.length longest_shape then None else Some long
lack_of (Err reason) = Some reason

-- How many operations write to the states.
abbrev pub a_write : Operation → ℕ
a_write (set p c e x) = 1
a_write (set_square p c row column x) = 1
a_write (push p c e numbers message) = 1
a_write (take p c e) = 1
a_write _ = 0

abbrev pub trace_writes : List Operation → ℕ
trace_writes operations = sum_by a_write operations

-- A shape has n outputs; where there is no shape, nothing is said.
abbrev pub HasOutputs : ℕ → Result Shape NoShape → Type 0
HasOutputs n (Ok s) = n ≡ length s.outs
HasOutputs n (Err reason) = Unit {0}

-- A trace of an entry in a case: it is well formed and right, it has few writes, as many outputs as the shape, and no
-- more joins than acceptance counts for the entry.
pub record IsTrace (case : Case) (stack : List LayerTree) (e : Entry) (trace : List Operation) : Type 0 where
  pub formed : IsWellFormed stack e.known e.fields trace
  pub right : (i : Input) (states : List State) → Enters stack e.known e.fields i states →
      IsRight case stack e.known e.fields trace i states
  pub writes : trace_writes trace ≤ longest_shape
  pub outputs : HasOutputs (trace_outputs trace) (shape stack e.known case)
  pub joins : trace_joins trace ≤ most_joins stack (entry_node stack e.known)

-- A guarded handler of a trace: where its guard holds its operations do what following the trace does, and elsewhere
-- following stops; it has no checks, its entry values use earlier ones alone, its operations are well formed, and it
-- joins and puts out no more.
pub record IsGuard (stack : List LayerTree) (e : Entry) (trace : List Operation) (guarded : Guarded) : Type 0 where
  pub same : (i : Input) (states : List State) → Enters stack e.known e.fields i states →
      performed i guarded states ≡ answer_end (follow i trace states)
  pub unchecked : list_all is_done guarded.operations ≡ true
  pub values : is_closed guarded ≡ true
  pub closed : Closed stack (entry_reach e.fields) guarded.operations
  pub there : AreThere stack guarded.operations
  pub safe : (i : Input) (states : List State) → Enters stack e.known e.fields i states →
      holds i guarded states ≡ true →
      SafeTrace stack i guarded.operations (on (before states))
  pub joins : trace_joins guarded.operations ≤ trace_joins trace
  pub outputs : trace_outputs guarded.operations ≤ trace_outputs trace

-- What is made of an entry in a case: a trace and a guarded handler of it, which can't be made simpler, exactly where
-- its shape is within the limit, and else the reason.
pub record IsFused (case : Case) (stack : List LayerTree) (e : Entry) (trace : List Operation) (guarded : Guarded) :
    Type 0 where
  pub within : lack_of (shape stack e.known case) ≡ None
  pub trace_is : IsTrace case stack e trace
  pub guard_is : IsGuard stack e trace guarded
  pub reduced : is_reduced guarded ≡ true

abbrev pub IsMade : Case → List LayerTree → Entry → Made → Type 0
IsMade case stack e (fused trace guarded) = IsFused case stack e trace guarded
IsMade case stack e (absent reason) = lack_of (shape stack e.known case) ≡ Some reason

abbrev pub IsSecond : List LayerTree → Entry → Option Made → Type 0
IsSecond stack e None = has_second_case stack e.known ≡ false
IsSecond stack e (Some made) = (has_second_case stack e.known ≡ true) × IsMade Second stack e made

-- So are all that are made of a stack's entries, in their order.
pub record AreOfStack (stack : List LayerTree) (b : Bypasses) : Type 0 where
  pub made : AllZip (IsMade First stack) (entries_of stack) b.made
  pub second : AllZip (IsSecond stack) (entries_of stack) b.second
