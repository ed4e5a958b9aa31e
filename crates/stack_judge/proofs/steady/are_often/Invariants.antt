use Rattle.std.proofs.Common.{◌≡◌, true, map, take}
use Rattle.std.specs.List.{list_all}
use Rattle.stack_judge.specs.Edges.{edge_tree}
use Rattle.stack_judge.specs.Steady.{is_often}
use Rattle.stack_judge.proofs.steady.are_often.Given as goal

abbrev pub invariant-loop-edge : goal.invariant-loop-edge
invariant-loop-edge l = list_all is_often (map edge_tree (take l.edge-index l.edges)) ≡ true
