-- Symbolic lists of small traces, made by evaluation.
use Rattle.std.specs.Prelude.{◌≡◌, ℕ, List, [], ◌∷◌, Some, None}
use Rattle.layer_words.specs.declared.events.Dir.TheVariants.{Down}
use Rattle.layer_words.specs.declared.events.Kind.TheVariants.{Cast}
use Rattle.layer_words.specs.declared.operators.Operator.TheVariants.{Add, Equal}
use Rattle.trace_mean.specs.Trace as trace
use Rattle.trace_mean.specs.Trace.{Atom, bound, noted, TraceNumber, atom, core, Operation, bind, note}
use Rattle.trace_mean.specs.Samples.{lit, cell, link, with_chain}
use Rattle.symbol_mean.specs.Value.{NumberValue, number, peer, taken_number, element, binary, body, Act, check, set}
use Rattle.symbol_mean.specs.Value.{set_square, push, take, output}
use Rattle.symbol_mean.specs.Symbolic.{symbolic}

-- Cell 0 of place 0, after n writes.
abbrev pub cell_after : ℕ → NumberValue
cell_after n = element (record { place = 0; cell = 0; writes = n }) (number 0)

-- One more than a number.
abbrev pub next : TraceNumber → TraceNumber
next e = trace.binary Add e (lit 1)

-- A cast that leaves the stack with these numbers, the input's body, and a header of these fields.
abbrev pub put_out : List Atom → List Atom → Operation
put_out numbers fields = trace.output Down Cast numbers (with_chain (link 0 1 fields ∷ []) trace.body)

-- A number is read, counted on and sent as it was: as the layer's text has it.
abbrev pub counting_trace : List Operation
counting_trace = bind (atom trace.peer) ∷ bind (cell 0 0) ∷ trace.set 0 0 (lit 0) (next (cell 0 0)) ∷
    put_out (bound 0 ∷ []) (bound 1 ∷ []) ∷ []

-- That trace with its peer written where it is used, and its number read once.
abbrev pub written_out : List Operation
written_out = bind (cell 0 0) ∷ trace.set 0 0 (lit 0) (next (atom (bound 0))) ∷
    put_out (trace.peer ∷ []) (bound 0 ∷ []) ∷ []

-- What both do: the cell is set to one more, and its number before that is sent.
abbrev pub counted_acts : List Act
counted_acts = set 0 0 (number 0) (binary Add (cell_after 0) (number 1)) ∷ output Down Cast (peer ∷ []) (Some (record {
  chain = record { place = 0; tag = 1; fields = cell_after 0 ∷ [] } ∷ [];
  message = body;
})) ∷ []

-- Traces that bind differently, but do the same with the same values, have one symbolic list.
abbrev pub BindsWriteOut : Type 0
BindsWriteOut = (symbolic counting_trace ≡ counted_acts) × (symbolic written_out ≡ counted_acts)

-- The trace with its bind after the set, so that it sends another number.
abbrev pub counted_late : List Operation
counted_late = trace.set 0 0 (lit 0) (next (cell 0 0)) ∷ bind (cell 0 0) ∷ put_out (trace.peer ∷ []) (bound 0 ∷ []) ∷ []

-- What is bound after a set differs from what was bound before it.
abbrev pub LateDiffers : Type 0
LateDiffers = symbolic counted_late ≡ symbolic counting_trace → ⊥

-- A packet's number is counted on by n.
abbrev pub counting_by : ℕ → List Operation
counting_by n = trace.set 0 1 (atom trace.peer) (trace.binary Add (atom (trace.field 0)) (lit n)) ∷ []

-- Traces that count on by different numbers have different lists.
abbrev pub NumbersDiffer : Type 0
NumbersDiffer = symbolic (counting_by 1) ≡ symbolic (counting_by 2) → ⊥

-- A check that the packet's first field equals the cell.
abbrev pub is_due : Operation
is_due = trace.check (trace.binary Equal (atom (trace.field 0)) (cell 0 0))

-- A set of the cell that the check reads.
abbrev pub sets : Operation
sets = trace.set 0 0 (lit 0) (lit 7)

-- A check before a set of what it reads differs from that check after it.
abbrev pub ChecksStay : Type 0
ChecksStay = symbolic (is_due ∷ sets ∷ []) ≡ symbolic (sets ∷ is_due ∷ []) → ⊥

-- A number is read, its cell is written four times and two others once, and then the number is sent and the cell
-- checked.
abbrev pub across : List Operation
across = bind (cell 0 0) ∷ sets ∷ trace.set_square 0 0 (lit 0) (lit 0) (lit 7) ∷ trace.push 0 0 (lit 0) [] None ∷
    trace.take 0 0 (lit 0) ∷
    trace.set 0 1 (lit 0) (lit 7) ∷ trace.set 1 0 (lit 0) (lit 7) ∷ put_out (bound 0 ∷ []) [] ∷ trace.check (cell 0 0) ∷
    []

-- Each operation that writes to a cell counts, and no other.
abbrev pub WritesCount : Type 0
WritesCount = symbolic across ≡ set 0 0 (number 0) (number 7) ∷ set_square 0 0 (number 0) (number 0) (number 7) ∷
    push 0 0 (number 0) [] None ∷ take 0 0 (number 0) ∷ set 0 1 (number 0) (number 7) ∷ set 1 0 (number 0) (number 7) ∷
    output Down Cast (cell_after 0 ∷ [])
    (Some (record { chain = record { place = 0; tag = 1; fields = [] } ∷ []; message = body })) ∷
    check (cell_after 4) ∷ []

-- A note of the first eight bytes of the input's body.
abbrev pub first_bytes : Operation
first_bytes = note (trace.cut (core trace.body) (lit 0) (lit 8))

-- A push of a row that carries the message noted as number n.
abbrev pub pushes : ℕ → Operation
pushes n = trace.push 0 0 (lit 0) [] (with_chain [] (noted n))

-- A message that is noted once, or once more where it is pushed, has one value.
abbrev pub NotesAreValues : Type 0
NotesAreValues = symbolic (first_bytes ∷ pushes 0 ∷ pushes 0 ∷ []) ≡
    symbolic (first_bytes ∷ pushes 0 ∷ first_bytes ∷ pushes 1 ∷ [])

-- A row is one that was taken before.
abbrev pub TakenBefore : Type 0
TakenBefore = symbolic (bind (atom (trace.taken_number 0 0)) ∷ trace.take 0 0 (lit 0) ∷ trace.check (atom (bound 0)) ∷
    trace.check (atom (trace.taken_number 0 0)) ∷ []) ≡
    take 0 0 (number 0) ∷ check (taken_number None 0) ∷ check (taken_number (Some 0) 0) ∷ []
