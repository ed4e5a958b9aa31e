-- What is read of a line is written so.
use Rattle.std.specs.Prelude.{◌≡◌, ℕ, List, ◌++◌, map, codes, Some}
use Rattle.std.specs.Fmt.{decimal}
use Rattle.std.specs.List.{range_with_len}
use Rattle.layer_mean.specs.Tree.{LayerTree}
use Rattle.trace_mean.specs.Trace.{Operation, note}
use Rattle.bypass_mean.specs.Text.{Written, message_text, line_of}
use Rattle.pack_mean.specs.Named.{Named}
use Rattle.pack_mean.specs.Operation.{operation_said}

-- How a note is called.
abbrev pub note_name : ℕ → List ℕ
note_name n = codes "m." ++ decimal n

-- What may be named on a line after others, as it is written: of each row what its numbers are called, of each note
-- its name.
abbrev pub written_with : List (List ℕ) → Named → Written
written_with before s = record {
  binds = s.binds;
  rows = map (λ items. items.numbers) s.rows;
  notes = map note_name (range_with_len 0 s.notes);
  lines = before;
}

-- The line of any operation.
abbrev pub line_with : List LayerTree → List (List ℕ) → Named → Operation → List ℕ
line_with stack before s (note m) = codes "note " ++ note_name s.notes ++ codes " = " ++
    message_text stack (written_with before s) m
line_with stack before s operation = line_of stack (written_with before s) operation

abbrev pub WhatIsReadIsWrittenSo : Type 0
WhatIsReadIsWrittenSo = (stack : List LayerTree) (before : List (List ℕ)) (s : Named) (line : List ℕ) (o : Operation) →
    operation_said stack s line ≡ Some o → line ≡ line_with stack before s o
