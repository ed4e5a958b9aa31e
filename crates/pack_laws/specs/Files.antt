-- What is read of a file is written so: a file has no other text.
use Rattle.std.specs.Prelude.{◌≡◌, ℕ, true, List, [], ◌∷◌, ◌++◌, codes, Ok}
use Rattle.audit_mean.specs.Text.{lines_of}
use Rattle.layer_mean.specs.Tree.{LayerTree}
use Rattle.trace_mean.specs.Trace.{Operation}
use Rattle.bypass_mean.specs.Text.{operation_lines}
use Rattle.pack_mean.specs.File.{Due, due_of, heading, traces_in}

-- The lines of cases that are due, with their traces: a heading, and how the trace's operations are written.
abbrev pub case_lines : List LayerTree → List Due → List (List Operation) → List (List ℕ)
case_lines stack (d ∷ due) (trace ∷ traces) = heading d.entry d.case ∷ operation_lines true stack trace ++
    case_lines stack due traces
case_lines stack _ _ = []

-- A file whose traces are read has these lines.
abbrev pub FilesAreWrittenSo : Type 0
FilesAreWrittenSo = (stack : List LayerTree) (text : List ℕ) (traces : List (List Operation)) →
    traces_in stack text ≡ Ok traces →
    lines_of text ≡ codes "bypasses 1" ∷ case_lines stack (due_of stack) traces ++ codes "end" ∷ []
