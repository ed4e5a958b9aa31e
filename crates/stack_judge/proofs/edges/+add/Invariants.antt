use Rattle.std.proofs.Common.{◌≡◌, ◌++◌, map, take}
use Rattle.stack_mean.specs.Emissions.{emissions_in}
use Rattle.typed_layer.specs.View.{trees, statement_tree}
use Rattle.stack_judge.specs.Edges.{node_tree, edge_tree, emission_edge}
use Rattle.typed_layer.specs.Places.{typed_tree}
use Rattle.stack_judge.proofs.edges.+add.Given as goal

abbrev pub invariant-add_block-loop-statement : goal.invariant-add_block-loop-statement
invariant-add_block-loop-statement l =
    map edge_tree l.edges.items ≡ map edge_tree l.fn.edges.items ++
    map (emission_edge (typed_tree l.stack) (node_tree l.node))
    (emissions_in l.times (trees (map statement_tree (take l.statement-index l.statement-items))))
