-- The lines of handlers and of traces, as they are put.
use Rattle.std.specs.Prelude.{ℕ, Bool, true, false, List, [], ◌∷◌, ◌++◌, codes, length, map}
use Rattle.std.specs.Fmt.{decimal}
use Rattle.bypass_mean.specs.Lines.{conjunct_line, ended_line}
use Rattle.bypass_mean.specs.Text.{Written, line_of, message_text, nothing_written, number_text, operation_lines}
use Rattle.bypass_mean.specs.Text.{writes}
use Rattle.layer_mean.specs.Tree.{LayerTree}
use Rattle.synth_print.specs.Source.{nodes_in, operations_in}
use Rattle.synth_print.specs.declared.source.Source.{Source}
use Rattle.trace_core.specs.Links.{chains}
use Rattle.trace_core.specs.Operations.{operation_in}
use Rattle.trace_core.specs.View.{message_in, number_in, terms}
use Rattle.trace_core.specs.declared.operation.Operation as code
use Rattle.trace_mean.specs.Trace.{TraceNumber, TraceMessage, Operation, Guarded}

-- Lines with their ends.
abbrev pub ended_lines : List (List ℕ) → List (List ℕ)
ended_lines lines = map ended_line lines

-- What was written, without the lines so far.
abbrev pub bare : Written → Written
bare w = record w { lines = [] }

-- With one more taken row, whose numbers are called so.
abbrev pub with_row : List (List ℕ) → Written → Written
with_row called w = record w { rows = w.rows ++ called ∷ [] }

-- What stands before an operation: a word in a handler, and nothing in a trace, where notes have lines of their own.
abbrev pub opening : Bool → List ℕ
opening false = codes "do "
opening true = []

abbrev pub opened_line : Bool → List ℕ → List ℕ
opened_line noting line = opening noting ++ line

-- The line of an operation, where it has one.
abbrev pub done_lines : Bool → List LayerTree → Written → Operation → List (List ℕ)
done_lines noting stack w o = ended_lines (map (opened_line noting) (writes noting stack w o).lines)

abbrev pub line_if : Bool → List ℕ → List (List ℕ)
line_if true line = line ∷ []
line_if false line = []

-- The lines of operations.
abbrev pub all_done : Bool → List LayerTree → List Operation → List (List ℕ)
all_done noting stack os = ended_lines (map (opened_line noting) (operation_lines noting stack os))

-- The line of a numbered entry value, and that of a numbered conjunct.
abbrev pub value_turn : List LayerTree → ℕ × TraceNumber → List (List ℕ)
value_turn stack x =
    ended_line (codes "let v." ++ decimal x.0 ++ codes " = " ++ number_text stack nothing_written x.1) ∷ []

abbrev pub conjunct_turn : List LayerTree → ℕ × TraceNumber → List (List ℕ)
conjunct_turn stack x = ended_line (conjunct_line stack x.1) ∷ []

-- An operation, the numbers of nodes, the handler with these entry values and conjuncts, and the message of a note.
abbrev pub operation_of : Source → code.Operation → Operation
operation_of s o = operation_in (terms (nodes_in s.nodes)) (chains s.links.now) o

abbrev pub numbers_of : Source → List ℕ → List TraceNumber
numbers_of s ks = map (number_in (terms (nodes_in s.nodes))) ks

abbrev pub handler_in : Source → (values conjuncts : List ℕ) → Guarded
handler_in s values conjuncts =
    record { values = numbers_of s values; conjuncts = numbers_of s conjuncts; operations = operations_in s }

abbrev pub message_of : Source → ℕ → TraceMessage
message_of s k = message_in (terms (nodes_in s.nodes)) k

-- The line of an operation that isn't a note, as it is put, and that of a note; and what is written after an
-- operation, without the lines so far.
abbrev pub done_text : Bool → List LayerTree → Written → Operation → List ℕ
done_text noting stack w o = ended_line (opened_line noting (line_of stack w o))

abbrev pub noted_text : List LayerTree → Written → TraceMessage → List ℕ
noted_text stack w m =
    ended_line (codes "note " ++ (codes "m." ++ decimal (length w.notes)) ++ codes " = " ++ message_text stack w m)

abbrev pub follows : Bool → List LayerTree → Written → Operation → Written
follows noting stack w o = bare (writes noting stack w o)
