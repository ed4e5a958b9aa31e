use Rattle.std.proofs.Common.{◌≡◌, map, take, None}
use Rattle.std.specs.List.{find}
use Rattle.stack_judge.specs.Edges.{node_tree}
use Rattle.stack_judge.specs.Vertices.{vertex_tree}
use Rattle.stack_judge.specs.Searches.{meets_itself}
use Rattle.stack_judge.proofs.search.first_met.Given as goal

abbrev pub invariant-loop-node : goal.invariant-loop-node
invariant-loop-node l = find (meets_itself (map vertex_tree l.vertices) l.most)
    (map node_tree (take l.node-index l.nodes)) ≡ None
