use Rattle.std.proofs.Common.{◌≡◌, map, take}
use Rattle.weight_laws.specs.Search.{see_after}
use Rattle.stack_judge.specs.Vertices.{vertex_tree}
use Rattle.stack_judge.specs.Searches.{search_tree}
use Rattle.stack_judge.proofs.search.Search.see_after.Given as goal

abbrev pub invariant-loop-number : goal.invariant-loop-number
invariant-loop-number l =
    search_tree l.self ≡ see_after (map vertex_tree l.vertices) (search_tree l.fn.self) (take l.number-index l.numbers)
