use Rattle.std.proofs.Common.{◌≡◌, ◌++◌, ◌*◌, ap, subst, OnOk, List, map, arith}
use Rattle.weight_laws.specs.Tables as table
use Rattle.typed_layer.specs.View.{block_tree}
use Rattle.stack_judge.specs.Edges.{node_tree, edge_tree}
use Rattle.typed_layer.specs.Places.{typed_tree}
use Rattle.stack_judge.proofs.Blocks.{block_held, edges_step}
use Rattle.stack_judge.proofs.edges.+add.Goals as goal

pub add_repeated-returns : goal.add_repeated-returns
add_repeated-returns t c =
    subst (λ (xs : List table.Edge).
    OnOk c.add_block.result (map edge_tree c.add_block.new.edges.items ≡ map edge_tree c.args.edges.now.items ++
    xs))
    (block_held (typed_tree c.args.stack.now) (node_tree c.args.node) c.saturating_mul.result
    (c.args.times * c.args.most) (block_tree c.args.block.now)
    (omega (arith, c.saturating_mul.ensures, ap (λ n. c.args.times * n) c.from.ensures)))
    c.add_block.ensures

pub add_block-loop-statement-preserved : goal.add_block-loop-statement-preserved
add_block-loop-statement-preserved t c =
    edges_step (typed_tree c.args.stack.now) (node_tree c.args.node) c.args.times c.as_slice-statement-items.result.now
    c.loop-statement.statement-index c.statement-item.result (map edge_tree c.args.edges.now.items)
    (map edge_tree c.loop-statement.edges.items) (map edge_tree c.add_statement.new.edges.items)
    c.loop-statement-test.true c.statement-item.is c.loop-statement.invariant c.in_ok-add_statement.ensures
