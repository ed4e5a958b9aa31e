use Rattle.std.proofs.Common.{◌∙◌, map, sym}
use Rattle.stack_judge.specs.Edges.{node_tree}
use Rattle.stack_judge.specs.Vertices.{vertex_tree}
use Rattle.stack_judge.specs.Searches.{meets_itself}
use Rattle.stack_judge.proofs.Steps.{found_at, none_yet}
use Rattle.stack_judge.proofs.search.first_met.Goals as goal

pub returns-then-branch : goal.returns-then-branch
returns-then-branch c =
    sym (found_at node_tree (meets_itself (map vertex_tree c.args.vertices.now) c.args.most) c.args.nodes.now
    c.loop-node.node-index _
    c.loop-node-test.true c.loop-node.invariant (sym c.in_ok-is_met.ensures ∙ c.if-branch.true))

pub loop-node-preserved : goal.loop-node-preserved
loop-node-preserved c =
    none_yet node_tree (meets_itself (map vertex_tree c.args.vertices.now) c.args.most) c.args.nodes.now
    c.loop-node.node-index _
    c.loop-node-test.true c.loop-node.invariant (sym c.in_ok-is_met.ensures ∙ c.if-branch.false)
