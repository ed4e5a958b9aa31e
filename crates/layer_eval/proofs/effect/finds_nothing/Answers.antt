use Rattle.std.proofs.Common.{ap, ◌∙◌}
use Rattle.typed_layer.specs.View.{expression_tree, taken_tree, statement_tree, block_tree}
use Rattle.layer_eval.proofs.Nothing.{in_vain, no_statements}
use Rattle.layer_eval.proofs.Trees.{take_tree}
use Rattle.layer_eval.proofs.effect.finds_nothing.Goals as goal

pub returns-then-has_no_row : goal.returns-then-has_no_row
returns-then-has_no_row g c =
    in_vain c.in-Take.cell (expression_tree c.in-Take.index) (taken_tree c.in-Take.taken) (block_tree c.in-Take.block)
    (block_tree c.in-Take.otherwise)
    (statement_tree c.args.statement.now) (g.D.Desk.shown c.args.pool.now c.args.desk.now)
    (ap statement_tree c.in-Take.is ∙ take_tree c.in-Take.cell c.in-Take.index c.in-Take.taken c.in-Take.block
    c.in-Take.otherwise)
    (no_statements c.in-Take.otherwise c.if-is_empty.ensures) (c.has_no_row.ensures c.if-has_no_row.true)
