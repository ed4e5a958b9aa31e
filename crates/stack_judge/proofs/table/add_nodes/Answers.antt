use Rattle.std.proofs.Common.{map, refl}
use Rattle.stack_judge.specs.Edges.{node_tree}
use Rattle.stack_judge.specs.Vertices.{node_at}
use Rattle.stack_judge.proofs.Steps.{number_step}
use Rattle.stack_judge.proofs.table.add_nodes.Goals as goal

pub loop-tag-preserved : goal.loop-tag-preserved
loop-tag-preserved c =
    number_step node_tree (map node_tree c.args.nodes.now.items) (node_at c.args.at c.args.dir c.args.kind)
    c.loop-tag.tag
    c.loop-tag.nodes.items c.push.new.self.items _ c.loop-tag.invariant c.in_ok-push.ensures.items refl
