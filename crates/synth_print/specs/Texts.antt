-- The texts of nodes.
use Rattle.std.specs.Prelude.{ℕ, List}
use Rattle.bypass_mean.specs.Text as mean
use Rattle.bypass_mean.specs.Text.{cell_text, line_of, number_text, message_text}
use Rattle.stack_judge.specs.Answer.{stack_tree}
use Rattle.stack_judge.specs.declared.stack.Stack.{Stack}
use Rattle.layer_mean.specs.Tree.{LayerTree}
use Rattle.synth_print.specs.Source.{nodes_in}
use Rattle.synth_print.specs.Written.{written_first, written_tree}
use Rattle.synth_print.specs.declared.scope.Scope.{Scope}
use Rattle.synth_print.specs.declared.source.Source.{Source}
use Rattle.synth_print.specs.declared.written.Spot.{Spot}
use Rattle.synth_print.specs.declared.written.Written.{Written}
use Rattle.trace_core.specs.Links.{chains}
use Rattle.trace_core.specs.Operations.{operation_in}
use Rattle.trace_core.specs.View.{Term, number_in, message_in, terms}
use Rattle.trace_core.specs.declared.operation.Operation.{Operation}
use Rattle.trace_mean.specs.Trace as trace

-- The stack, what may be named, the nodes and the chains of a scope.
abbrev pub layers_in : Scope → List LayerTree
layers_in s = stack_tree s.stack.now

abbrev pub written_in : Scope → mean.Written
written_in s = written_first (stack_tree s.stack.now) (terms (nodes_in s.source.now.nodes)) s.written.now s.rows s.notes

abbrev pub terms_in : Scope → List Term
terms_in s = terms (nodes_in s.source.now.nodes)

abbrev pub chains_in : Scope → List (List trace.Link)
chains_in s = chains s.source.now.links.now

-- All that was written of a stack's operations.
abbrev pub written_of : Stack → Source → Written → mean.Written
written_of stack source w = written_tree (stack_tree stack) (terms (nodes_in source.nodes)) w

-- The text of the number of a node, of the message of a node, and of a cell whose index is a node.
abbrev pub number_at : Scope → ℕ → List ℕ
number_at s k = number_text (layers_in s) (written_in s) (number_in (terms_in s) k)

abbrev pub message_at : Scope → ℕ → List ℕ
message_at s k = message_text (layers_in s) (written_in s) (message_in (terms_in s) k)

abbrev pub cell_at : Scope → Spot → ℕ → List ℕ
cell_at s spot index = cell_text (layers_in s) spot.place spot.cell (number_at s index)

-- The text of an operation.
abbrev pub operation_text : Scope → Operation → List ℕ
operation_text s o = line_of (layers_in s) (written_in s) (operation_in (terms_in s) (chains_in s) o)
