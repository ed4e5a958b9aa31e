-- What is printed of a stack: the text of its simplest bypasses.
use Rattle.std.specs.Prelude.{ℕ, List}
use Rattle.std.specs.List.{concat}
use Rattle.layer_mean.specs.Tree.{LayerTree}
use Rattle.stack_mean.specs.Plans.{plans_of}
use Rattle.bypass_mean.specs.Lines.{printed_lines}
use Rattle.bypass_laws.specs.Making.{bypasses_of, simplest}

abbrev pub synth_lines : List LayerTree → List (List ℕ)
synth_lines stack = printed_lines stack (plans_of stack) (bypasses_of simplest stack)

abbrev pub synth_text : List LayerTree → List ℕ
synth_text stack = concat (synth_lines stack)
