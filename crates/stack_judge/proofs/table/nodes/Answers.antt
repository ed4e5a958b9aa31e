use Rattle.std.proofs.Common.{map}
use Rattle.stack_judge.specs.Edges.{node_tree}
use Rattle.typed_layer.specs.Places.{typed_tree}
use Rattle.stack_judge.specs.Vertices.{nodes_at}
use Rattle.stack_judge.proofs.Steps.{numbers_step}
use Rattle.stack_judge.proofs.table.nodes.Goals as goal

pub loop-at-preserved : goal.loop-at-preserved
loop-at-preserved c =
    numbers_step (nodes_at (typed_tree c.args.stack.now)) c.loop-at.at (map node_tree c.loop-at.nodes.items)
    (map node_tree c.add_place.new.nodes.items) c.loop-at.invariant c.in_ok-add_place.ensures
