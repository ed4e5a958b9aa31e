use Rattle.std.proofs.Common.{◌≡◌, true, map, take}
use Rattle.std.specs.List.{list_all}
use Rattle.stack_judge.specs.Edges.{node_tree}
use Rattle.stack_judge.specs.Vertices.{vertex_tree}
use Rattle.stack_judge.specs.Measures.{own_of}
use Rattle.stack_judge.specs.Steady.{is_steady_at}
use Rattle.stack_judge.proofs.steady.are_steady.Given as goal

abbrev pub invariant-loop-node : goal.invariant-loop-node
invariant-loop-node l =
    list_all (is_steady_at (own_of l.measure) (map vertex_tree l.vertices) l.costs)
    (map node_tree (take l.node-index l.nodes)) ≡ true
