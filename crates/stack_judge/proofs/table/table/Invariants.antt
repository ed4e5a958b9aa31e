use Rattle.std.proofs.Common.{◌≡◌, map, fold, length, take}
use Rattle.weight_laws.specs.Tables.{with_node, empty_table}
use Rattle.stack_judge.specs.Edges.{node_tree}
use Rattle.typed_layer.specs.Places.{typed_tree}
use Rattle.stack_judge.specs.Vertices.{vertex_tree}
use Rattle.stack_judge.proofs.table.table.Given as goal

abbrev pub invariant-loop-node : goal.invariant-loop-node
invariant-loop-node l =
    map vertex_tree l.vertices.items ≡
    fold (with_node (typed_tree l.stack)) (empty_table (length (typed_tree l.stack)))
    (map node_tree (take l.node-index l.nodes))
