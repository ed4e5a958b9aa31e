use Rattle.std.proofs.Common.{map}
use Rattle.stack_judge.specs.Edges.{node_tree}
use Rattle.typed_layer.specs.Places.{typed_tree}
use Rattle.stack_judge.specs.Vertices.{nodes_of_kind}
use Rattle.stack_judge.proofs.Steps.{elements_step}
use Rattle.stack_judge.proofs.table.add_kinds.Goals as goal

pub loop-kind-preserved : goal.loop-kind-preserved
loop-kind-preserved c =
    elements_step (nodes_of_kind (typed_tree c.args.stack.now) c.args.at) c.args.kinds.now c.loop-kind.kind-index _
    (map node_tree c.args.nodes.now.items) (map node_tree c.loop-kind.nodes.items)
    (map node_tree c.add_kind.new.nodes.items)
    c.loop-kind-test.true c.loop-kind.invariant c.in_ok-add_kind.ensures
