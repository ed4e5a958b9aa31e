use Rattle.std.proofs.Common.{◌≡◌, ◌++◌, map}
use Rattle.std.specs.List.{range_with_len}
use Rattle.stack_judge.specs.Edges.{node_tree}
use Rattle.stack_judge.specs.Vertices.{node_at}
use Rattle.stack_judge.proofs.table.add_nodes.Given as goal

abbrev pub invariant-loop-tag : goal.invariant-loop-tag
invariant-loop-tag l =
    map node_tree l.nodes.items ≡ map node_tree l.fn.nodes.items ++
    map (node_at l.at l.dir l.kind) (range_with_len 0 l.tag)
