use Rattle.std.proofs.Common.{◌∙◌, ap, map, slice_index}
use Rattle.std.specs.List.{range_with_len}
use Rattle.stack_mean.specs.Acceptance.{largest}
use Rattle.stack_mean.specs.Graph as graph
use Rattle.weight_laws.specs.Tables.{node_number}
use Rattle.typed_layer.specs.Places.{typed_tree}
use Rattle.stack_judge.specs.Vertices.{node_at}
use Rattle.stack_judge.proofs.Judged.{largest_numbered}
use Rattle.stack_judge.proofs.judge.largest_of_kind.Goals as goal

pub returns : goal.returns
returns c =
    let number = c.number_at.ensures ∙ ap (λ at. node_number (node_at at c.args.dir c.args.kind 0)) c.from.ensures in
    c.largest_cost.ensures
    ∙ ap (λ n. largest (map (slice_index c.args.costs.now) (range_with_len n c.tags_to-tags.result.count))) number
    ∙ largest_numbered c.args.costs.now c.args.at c.args.dir c.args.kind c.tags_to-tags.result.count
    (graph.tags_for c.args.kind (graph.header_layer (typed_tree c.args.stack.now) c.args.dir c.args.at))
    c.tags_to-tags.ensures.tags
