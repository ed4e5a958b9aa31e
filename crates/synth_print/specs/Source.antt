-- The operations that are told, with what they name.
use Rattle.std.specs.Prelude.{List}
use Rattle.synth_print.specs.declared.source.Nodes.{Nodes}
use Rattle.synth_print.specs.declared.source.Nodes.TheVariants as nodes
use Rattle.synth_print.specs.declared.source.Source.{Source}
use Rattle.trace_core.specs.Operations.{operations_of}
use Rattle.trace_core.specs.declared.node.Node.{Node}
use Rattle.trace_mean.specs.Trace as trace

abbrev pub nodes_in : Nodes → List Node
nodes_in (nodes.OfTrace arena) = arena.now
nodes_in (nodes.OfHandler shared) = shared.now

-- What the operations stand for.
abbrev pub operations_in : Source → List trace.Operation
operations_in s = operations_of (nodes_in s.nodes) s.links.now s.operations.now
