use Rattle.std.proofs.Common.{◌≡◌, map, take}
use Rattle.stack_judge.specs.Vertices.{vertex_tree}
use Rattle.stack_judge.specs.Measures.{own_of}
use Rattle.stack_judge.proofs.rounds.own_costs.Given as goal

abbrev pub invariant-loop-vertex : goal.invariant-loop-vertex
invariant-loop-vertex l = l.costs.items ≡ map (own_of l.measure) (map vertex_tree (take l.vertex-index l.vertices))
