use Rattle.std.proofs.Common.{◌≡◌, map}
use Rattle.weight_laws.specs.Search.{search_after}
use Rattle.stack_judge.specs.Vertices.{vertex_tree}
use Rattle.stack_judge.specs.Searches.{search_tree}
use Rattle.stack_judge.proofs.search.Search.rounds.Given as goal

abbrev pub invariant-loop-done : goal.invariant-loop-done
invariant-loop-done l = search_tree l.self ≡ search_after (map vertex_tree l.vertices) l._done (search_tree l.fn.self)
