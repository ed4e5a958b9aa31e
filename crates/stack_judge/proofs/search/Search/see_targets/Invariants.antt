use Rattle.std.proofs.Common.{◌≡◌, fold}
use Rattle.std.specs.List.{range_with_len}
use Rattle.weight_laws.specs.Search.{see}
use Rattle.stack_judge.specs.Searches.{search_tree}
use Rattle.stack_judge.proofs.search.Search.see_targets.Given as goal

abbrev pub invariant-loop-k : goal.invariant-loop-k
invariant-loop-k l = search_tree l.self ≡ fold see (search_tree l.fn.self) (range_with_len l.edge.first l.k)
