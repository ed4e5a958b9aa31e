use Rattle.std.proofs.Common.{◌≡◌, ◌++◌, map, flat_map, take}
use Rattle.stack_judge.specs.Edges.{node_tree}
use Rattle.typed_layer.specs.Places.{typed_tree}
use Rattle.stack_judge.specs.Vertices.{nodes_of_kind}
use Rattle.stack_judge.proofs.table.add_kinds.Given as goal

abbrev pub invariant-loop-kind : goal.invariant-loop-kind
invariant-loop-kind l =
    map node_tree l.nodes.items ≡ map node_tree l.fn.nodes.items ++
    flat_map (nodes_of_kind (typed_tree l.stack) l.at) (take l.kind-index l.kinds)
