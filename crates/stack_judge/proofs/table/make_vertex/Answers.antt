use Rattle.std.proofs.Common.{◌++◌, ◌∙◌, sym, ap, map}
use Rattle.std.specs.List.{find}
use Rattle.layer_mean.specs.Visit.{is_for}
use Rattle.stack_mean.specs.Emissions.{emissions_in}
use Rattle.typed_layer.specs.View.{handler_tree, layer_tree, block_tree}
use Rattle.stack_judge.specs.Edges.{node_tree, edge_tree, emission_edge}
use Rattle.typed_layer.specs.Places.{typed_tree}
use Rattle.stack_judge.proofs.Entered.{entered}
use Rattle.stack_judge.proofs.table.make_vertex.Goals as goal

pub returns-in_ok-add_block-in-Some-find : goal.returns-in_ok-add_block-in-Some-find
returns-in_ok-add_block-in-Some-find c =
    entered (typed_tree c.args.stack.now) (node_tree c.args.node) (layer_tree c.in-Some.layer.now)
    (handler_tree c.in-Some-find.handler.now) c.of_handler.result (map edge_tree c.add_block.new.edges.items)
    c.in-Some.ensures.0 c.in-Some.ensures.1
    (ap (λ t. find (is_for c.args.node.dir c.args.node.kind t) (layer_tree c.in-Some.layer.now).handlers)
    (sym c.popped_tag.ensures)
    ∙ sym c.in-Some-find.ensures)
    c.of_handler.ensures
    (c.in_ok-add_block-in-Some-find.ensures
    ∙ ap (λ es. map edge_tree es ++ map (emission_edge (typed_tree c.args.stack.now) (node_tree c.args.node))
    (emissions_in 1 (block_tree c.in-Some-find.handler.now.block))) c.new-edges.ensures.items)
