-- Typed stacks and chained tasks are what the laws of weights ask for.
use Rattle.std.specs.Prelude.{List}
use Rattle.layer_mean.specs.declared.run.Event.{Event}
use Rattle.layer_mean.specs.Tree.{LayerTree}
use Rattle.layer_mean.specs.Queue.{Task}
use Rattle.chain_laws.specs.Runs.{TypedStack, IsChainedTask}
use Rattle.weight_laws.specs.Nodes.{IsKnown}
use Rattle.weight_laws.specs.Orderly.{IsOrderly}

-- A typed stack sends only what its graph tells.
abbrev pub TypedIsOrderly : Type 0
TypedIsOrderly = (stack : List LayerTree) → TypedStack stack → IsOrderly stack

-- A chained task is at one of the nodes of its stack.
abbrev pub ChainedIsKnown : Type 0
ChainedIsKnown = (stack : List LayerTree) (t : Task Event) → IsChainedTask stack t → IsKnown stack t
