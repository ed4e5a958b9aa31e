use Rattle.std.proofs.Common.{◌≡◌, fold, map, take}
use Rattle.weight_laws.specs.Search.{see_targets}
use Rattle.stack_judge.specs.Edges.{edge_tree}
use Rattle.stack_judge.specs.Searches.{search_tree}
use Rattle.stack_judge.proofs.search.Search.see_edges.Given as goal

abbrev pub invariant-loop-edge : goal.invariant-loop-edge
invariant-loop-edge l = search_tree l.self ≡
    fold see_targets (search_tree l.fn.self) (map edge_tree (take l.edge-index l.edges))
