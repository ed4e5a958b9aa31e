use Rattle.std.proofs.Common.{arith}
use Rattle.stack_judge.specs.Edges.{node_tree}
use Rattle.stack_judge.proofs.Numbered.{edge_is}
use Rattle.stack_judge.proofs.edges.edge_to.Goals as goal

pub returns : goal.returns
returns c =
    edge_is c.args.times c.number_at.result c.args.tags.count (node_tree c.args.node) c.args.dir c.args.kind
    c.args.tags.first
    (omega (arith, c.ranges.times.fits)) (rw (← c.neighbour.ensures) c.number_at.ensures)
