use Rattle.std.proofs.Common.{◌∙◌, ap, map, slice_set}
use Rattle.std.proofs.lemmas.List.{map-set}
use Rattle.weight_laws.specs.Tables.{node_number}
use Rattle.stack_judge.specs.Vertices.{vertex_tree, node_at}
use Rattle.stack_judge.proofs.table.enter.Goals as goal

pub returns-then-number-len : goal.returns-then-number-len
returns-then-number-len c =
    let number = c.number_at-number.ensures ∙
    ap (λ at. node_number (node_at at c.args.node.dir c.args.node.kind c.args.node.tag)) c.from.ensures in
    map-set vertex_tree c.args.vertices.now.items c.number_at-number.result c.in_ok-vertex.vertex
    ∙ (λ i. slice_set (map vertex_tree c.args.vertices.now.items) (number i) (c.in_ok-vertex.ensures i))
