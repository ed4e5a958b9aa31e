use Rattle.std.proofs.Common.{◌≡◌, map, replicate}
use Rattle.weight_laws.specs.Tables.{no_vertex}
use Rattle.stack_judge.specs.Vertices.{vertex_tree}
use Rattle.stack_judge.proofs.table.empty.Given as goal

abbrev pub invariant-loop-number : goal.invariant-loop-number
invariant-loop-number l = map vertex_tree l.vertices.items ≡ replicate l._number no_vertex
