-- What was packed is accepted.
use Rattle.std.specs.Prelude.{◌≡◌, ℕ, ◌≤◌, List, length, map, Ok}
use Rattle.std.specs.List.{concat}
use Rattle.layer_mean.specs.Tree.{LayerTree}
use Rattle.stack_mean.specs.Plans.{plans_of}
use Rattle.bypass_mean.specs.Lines.{ended_line, file_lines}
use Rattle.bypass_laws.specs.Making.{bypasses_of, simplest}
use Rattle.output_mean.specs.Judged.{Means}
use Rattle.pack_mean.specs.File.{due_of, traces_in}
use Rattle.pack_mean.specs.Accepted.{longest_file, Accepts}

-- The text that is packed of a stack: the traces of its bypasses, each line with its end.
abbrev pub packed_text : List LayerTree → List ℕ
packed_text stack = concat (map ended_line (file_lines stack (plans_of stack) (bypasses_of simplest stack)))

-- Of each stack that a file means the text that is packed is read as the stack's own traces.
abbrev pub WhatWasPackedIsRead : Type 0
WhatWasPackedIsRead = (file : List ℕ) (stack : List LayerTree) → Means file stack →
    traces_in stack (packed_text stack) ≡ Ok (map (λ d. d.own) (due_of stack))

-- So it is accepted where it is no longer than such a file may be.
abbrev pub WhatWasPackedIsAccepted : Type 0
WhatWasPackedIsAccepted = (file : List ℕ) (stack : List LayerTree) → Means file stack →
    length (packed_text stack) ≤ longest_file →
    Accepts stack (packed_text stack)
