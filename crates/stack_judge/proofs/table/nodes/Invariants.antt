use Rattle.std.proofs.Common.{◌≡◌, map, flat_map}
use Rattle.std.specs.List.{range_with_len}
use Rattle.stack_judge.specs.Edges.{node_tree}
use Rattle.typed_layer.specs.Places.{typed_tree}
use Rattle.stack_judge.specs.Vertices.{nodes_at}
use Rattle.stack_judge.proofs.table.nodes.Given as goal

abbrev pub invariant-loop-at : goal.invariant-loop-at
invariant-loop-at l = map node_tree l.nodes.items ≡ flat_map (nodes_at (typed_tree l.stack)) (range_with_len 0 l.at)
