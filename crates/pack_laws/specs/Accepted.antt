-- The bypasses that the traces of a file give.
use Rattle.std.specs.Prelude.{◌≡◌, ℕ, ◌≤◌, nat_le, List, [], ◌∷◌, map, slice_get, Option, Some, None, if◌then◌else◌}
use Rattle.std.specs.List.{AllZip}
use Rattle.layer_mean.specs.declared.run.Case.TheVariants.{First}
use Rattle.layer_mean.specs.Tree.{LayerTree}
use Rattle.trace_mean.specs.Trace.{Operation}
use Rattle.trace_mean.specs.Counts.{trace_joins}
use Rattle.bypass_mean.specs.Bypasses.{Entry, entries_of, Made, fused, absent, Bypasses}
use Rattle.bypass_laws.specs.Stack.{AreOfStack}
use Rattle.bypass_laws.specs.Making.{made_of, second_of, bypasses_of, IsSound, simplest}
use Rattle.pack_laws.specs.Replacement.{Replaces}
use Rattle.pack_mean.specs.File.{Due, due_of}
use Rattle.pack_mean.specs.Accepted.{Accepts}

-- A trace of a file is run in place of the stack's own where it has no more joins.
abbrev pub chosen_trace : (own trace : List Operation) → List Operation
chosen_trace own trace = if nat_le (trace_joins trace) (trace_joins own) then trace else own

-- What is made of a case with the first of a file's traces, and the traces after that. Where nothing is made none is
-- due.
abbrev pub filled_case : Made → List (List Operation) → Made × List (List Operation)
filled_case (fused own guarded) [] = (fused own guarded, [])
filled_case (fused own guarded) (trace ∷ traces) =
    (fused (chosen_trace own trace) (simplest (chosen_trace own trace)), traces)
filled_case (absent reason) traces = (absent reason, traces)

abbrev pub second_filled : Option Made → List (List Operation) → Option Made × List (List Operation)
second_filled None traces = (None, traces)
second_filled (Some own) traces = (Some (filled_case own traces).0, (filled_case own traces).1)

-- What is made of one entry more.
abbrev pub with_entry : Made → Option Made → Bypasses → Bypasses
with_entry first second b = record { made = first ∷ b.made; second = second ∷ b.second }

-- The bypasses of entries with the traces of a file, by entry and then by case.
abbrev pub from_entries : List LayerTree → List Entry → List (List Operation) → Bypasses
from_entries stack [] traces = record { made = []; second = [] }
from_entries stack (e ∷ es) traces =
    let first = filled_case (made_of simplest First stack e) traces in
    let second = second_filled (second_of simplest stack e) first.1 in
    with_entry first.0 second.0 (from_entries stack es second.1)

abbrev pub from_file : List LayerTree → List (List Operation) → Bypasses
from_file stack traces = from_entries stack (entries_of stack) traces

-- A trace of a file may be run in place of the stack's own of its case, whose entry is given by its number, where it
-- has no more joins.
abbrev pub MayReplace : List LayerTree → Due → List Operation → Type 0
MayReplace stack d trace = (e : Entry) → slice_get (entries_of stack) d.entry ≡ Some e →
    trace_joins trace ≤ trace_joins d.own →
    Replaces stack e d.own trace

-- All traces of an accepted file may be.
abbrev pub AcceptedMayReplace : Type 0
AcceptedMayReplace = (stack : List LayerTree) (text : List ℕ) (file : Accepts stack text) →
    AllZip (MayReplace stack) (due_of stack) file.traces

-- The bypasses of an accepted file are the stack's.
abbrev pub AcceptedAreOfStack : Type 0
AcceptedAreOfStack = (stack : List LayerTree) (text : List ℕ) → IsSound stack → (file : Accepts stack text) →
    AreOfStack stack (from_file stack file.traces)

-- The stack's own traces give what is made of them.
abbrev pub OwnTracesGiveOwn : Type 0
OwnTracesGiveOwn = (stack : List LayerTree) → from_file stack (map (λ d. d.own) (due_of stack)) ≡
    bypasses_of simplest stack
