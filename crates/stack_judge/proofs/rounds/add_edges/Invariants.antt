use Rattle.std.proofs.Common.{◌≡◌, map, fold, take}
use Rattle.weight_laws.specs.Rounds.{with_edge}
use Rattle.stack_judge.specs.Edges.{edge_tree}
use Rattle.stack_judge.proofs.rounds.add_edges.Given as goal

abbrev pub invariant-loop-edge : goal.invariant-loop-edge
invariant-loop-edge l = l.sum ≡ fold (with_edge l.costs) l.fn.own (map edge_tree (take l.edge-index l.edges))
