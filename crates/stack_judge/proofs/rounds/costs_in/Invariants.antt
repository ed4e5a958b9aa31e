use Rattle.std.proofs.Common.{◌≡◌, map}
use Rattle.weight_laws.specs.Rounds.{rounds}
use Rattle.stack_judge.specs.Vertices.{vertex_tree}
use Rattle.stack_judge.specs.Measures.{own_of}
use Rattle.stack_judge.proofs.rounds.costs_in.Given as goal

abbrev pub invariant-loop-done : goal.invariant-loop-done
invariant-loop-done l = l.costs.items ≡ rounds (own_of l.measure) (map vertex_tree l.vertices) l._done
