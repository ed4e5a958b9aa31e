-- What stands in brackets on a line.
use Rattle.std.specs.Prelude.{ℕ, zero, suc, ◌≡◌, Result, Ok, Err}
use Rattle.trace_mean.specs.Trace.{TraceNumber}
use Rattle.pack_mean.specs.Reader.{Reader}
use Rattle.pack_mean.specs.Expression.{Inner, inside}
use Rattle.pack_mean.specs.Operation.{a_row_number}
use Rattle.pack_words.specs.View.{layers_in, named_in}
use Rattle.pack_words.specs.declared.error.LineError.{LineError}
use Rattle.pack_words.specs.declared.error.LineError.TheVariants.{Form, Memory}
use Rattle.pack_words.specs.declared.scope.Scope.{Scope}

-- How the text in a bracket of a line is read, where `room` brackets may be opened, that one included.
unfoldable pub inner : Scope → ℕ → Inner
inner s room = inside (layers_in s) (named_in s) room

-- How a number of a row that is pushed is read.
unfoldable pub in_row : Scope → Reader TraceNumber
in_row s = a_row_number (layers_in s) (named_in s)

-- How many brackets may be opened inside the next one, if that may be opened.
abbrev pub Opens : ℕ → Result ℕ LineError → Type 0
Opens room (Ok less) = room ≡ suc less
Opens room (Err Form) = room ≡ zero
Opens room (Err Memory) = ⊥
