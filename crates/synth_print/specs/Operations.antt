-- The parts of operations, as text.
use Rattle.std.specs.Prelude.{ℕ, Bool, true, false, List, [], ◌++◌, codes, map, Option, Some, None, option_map}
use Rattle.std.specs.Prelude.{option_to_list}
use Rattle.bypass_mean.specs.Text.{Written, following, core_text, bracketed_list, number_text, pushed_text}
use Rattle.layer_mean.specs.Tree.{LayerTree}
use Rattle.report_lines.specs.Lead.{lead}
use Rattle.synth_print.specs.Headers.{atom_texts}
use Rattle.trace_core.specs.Operations.{chained_in}
use Rattle.trace_core.specs.View.{Term, core_tree, number_in}
use Rattle.trace_core.specs.declared.node.Atom.{Atom}
use Rattle.trace_core.specs.declared.operation.Chained.{Chained}
use Rattle.trace_core.specs.declared.operation.Operation.{Operation}
use Rattle.trace_core.specs.declared.operation.Operation.TheVariants as operations
use Rattle.trace_mean.specs.Trace as trace

-- Whether an operation changes a cell and takes nothing.
abbrev pub is_change : Operation → Bool
is_change (operations.Set place cell index value) = true
is_change (operations.SetSquare place cell row column value) = true
is_change (operations.Push place cell index numbers message) = true
is_change _ = false

-- The last of parts with commas between, where there is one after n others.
abbrev pub last_part : ℕ → Option (List ℕ) → List ℕ
last_part n None = []
last_part n (Some text) = lead (codes ",") n ++ text

-- The texts of the numbers of nodes.
abbrev pub number_texts : List LayerTree → Written → List Term → List ℕ → List (List ℕ)
number_texts stack w ts ks = map (number_text stack w) (map (number_in ts) ks)

-- A message, without its known headers and with them; these alone.
abbrev pub core_of : Written → Chained → List ℕ
core_of w m = core_text w (core_tree m.core)

abbrev pub pushed_of : List LayerTree → Written → List (List trace.Link) → Chained → List ℕ
pushed_of stack w cs m = pushed_text stack w (chained_in cs m)

abbrev pub after_of : List LayerTree → Written → trace.Chained → List ℕ
after_of stack w m = following stack w m.chain

-- The parts of an output, and those of a row that is pushed.
abbrev pub listed_cores : Written → List (List trace.Link) → List Atom → Option Chained → List ℕ
listed_cores w cs atoms message =
    bracketed_list (atom_texts w atoms ++
    map (λ (m : trace.Chained). core_text w m.core) (option_to_list (option_map (chained_in cs) message)))

abbrev pub listed_rows : List LayerTree → Written → List Term → List (List trace.Link) → List ℕ → Option Chained →
    List ℕ
listed_rows stack w ts cs ks message =
    bracketed_list (number_texts stack w ts ks ++
    map (pushed_text stack w) (option_to_list (option_map (chained_in cs) message)))
