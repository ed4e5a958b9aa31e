-- What is printed of a stack's bypasses.
use Rattle.std.specs.Prelude.{ℕ, List, map}
use Rattle.std.specs.List.{concat}
use Rattle.layer_mean.specs.Tree.{LayerTree}
use Rattle.stack_mean.specs.Plan.{Plan}
use Rattle.stack_mean.specs.Plans.{plans_of}
use Rattle.bypass_mean.specs.Bypasses.{Bypasses}
use Rattle.bypass_mean.specs.Lines.{ended_line, file_lines}
use Rattle.bypass_laws.specs.Making.{bypasses_of, simplest}
use Rattle.bypass_laws.specs.Printed.{synth_text}
use Rattle.program_mean.specs.Headline.{Printer, handlers, traces}

-- Lines that are printed of bypasses, over a stack and its plans.
abbrev pub Lines : Type 0
Lines = List LayerTree → List Plan → Bypasses → List (List ℕ)

-- Their traces as a file, each line with its end; and that of a stack.
abbrev pub packed_file : Lines
packed_file stack plans b = map ended_line (file_lines stack plans b)

abbrev pub packed_lines : List LayerTree → List (List ℕ)
packed_lines stack = packed_file stack (plans_of stack) (bypasses_of simplest stack)

-- The text that is printed: the guarded handlers, or the traces.
abbrev pub printed_text : Printer
printed_text handlers stack = synth_text stack
printed_text traces stack = concat (packed_lines stack)
