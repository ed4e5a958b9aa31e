-- How many operations of each kind a trace has, and how many joins its notes make.
use Rattle.std.specs.Prelude.{ℕ, ◌+◌, List}
use Rattle.std.specs.List.{sum_by}
use Rattle.trace_mean.specs.Trace.{TraceMessage, core, held, cut, tail, join, Operation, note, output}

-- An operation counts as one, a note as none.
abbrev pub operation_length : Operation → ℕ
operation_length (note m) = 0
operation_length _ = 1

-- One for a note, and nothing for any other operation.
abbrev pub a_note : Operation → ℕ
a_note (note m) = 1
a_note _ = 0

-- One for an output, and nothing for any other operation.
abbrev pub an_output : Operation → ℕ
an_output (output dir kind numbers message) = 1
an_output _ = 0

-- How long a trace is: its operations without notes.
abbrev pub trace_length : List Operation → ℕ
trace_length operations = sum_by operation_length operations

-- How many notes it has.
abbrev pub trace_notes : List Operation → ℕ
trace_notes operations = sum_by a_note operations

-- How many outputs it has.
abbrev pub trace_outputs : List Operation → ℕ
trace_outputs operations = sum_by an_output operations

-- The joins of a message, for each of which there must be room. (A number has none: `size` joins nothing.)
abbrev pub message_joins : TraceMessage → ℕ
message_joins (core c) = 0
message_joins (held p c e row carried) = 0
message_joins (cut m from n) = message_joins m
message_joins (tail m from) = message_joins m
message_joins (join first m) = 1 + message_joins first + message_joins m

-- Notes alone join: what is pushed and put out names what was noted.
abbrev pub note_joins : Operation → ℕ
note_joins (note m) = message_joins m
note_joins _ = 0

-- How many joins its notes make.
abbrev pub trace_joins : List Operation → ℕ
trace_joins operations = sum_by note_joins operations
