use Rattle.std.proofs.Common.{ap, refl, ◌∙◌}
use Rattle.layer_ast.specs.Tree.{none}
use Rattle.layer_ast.specs.View.{block_tree, expression_tree, names_tree, queue_tree, statement_tree}
use Rattle.layer_ast.proofs.StatementViews.{bind_tree, choose_tree, emit_tree, set_square_tree, set_tree, take_tree}
use Rattle.layer_ast.proofs.StatementViews.{when_tree}
use Rattle.miss_explain.proofs.Decisions.{block_more, choose_entered, choose_passed, quiet, take_lines, when_entered}
use Rattle.miss_explain.proofs.Decisions.{with_block}
use Rattle.miss_explain.proofs.Passing.{passes_none}
use Rattle.miss_explain.proofs.statements.+blocks.Goals as goal

pub pass_statement-returns-in-Take : goal.pass_statement-returns-in-Take
pass_statement-returns-in-Take t c = let i = c.in-Take in
    with_block c.args.case _ _ _ _ _ _ _ (ap statement_tree i.is ∙ take_tree i.at i.queue i.names i.block i.otherwise)
    (take_lines c.args.case i.at (queue_tree i.queue) (names_tree i.names) (block_tree i.block)
    (block_tree i.otherwise))
    c.pass-in-Take.ensures c.pass_block.ensures

pub pass_statement-returns-then-is_entered : goal.pass_statement-returns-then-is_entered
pass_statement-returns-then-is_entered t c = let i = c.in-When in
    when_entered c.args.case _ i.likely i.at (expression_tree i.condition) (block_tree i.block) none _ _ _ _
    c.is_entered.ensures c.pass-in-When.ensures
    (ap statement_tree i.is ∙ when_tree i.at i.likely i.condition i.block) c.if-is_entered.true
    c.pass_block-then-is_entered.ensures

pub pass_statement-returns-then-is_entered-2 : goal.pass_statement-returns-then-is_entered-2
pass_statement-returns-then-is_entered-2 t c = let i = c.in-Choose in
    choose_entered c.args.case _ i.likely i.at (expression_tree i.condition) (block_tree i.block)
    (block_tree i.otherwise) _ _ _ _
    c.is_entered-in-Choose.ensures c.pass-in-Choose.ensures
    (ap statement_tree i.is ∙ choose_tree i.at i.likely i.condition i.block i.otherwise) c.if-is_entered-2.true
    c.pass_block-then-is_entered-2.ensures

pub pass_statement-returns-else-is_entered-2 : goal.pass_statement-returns-else-is_entered-2
pass_statement-returns-else-is_entered-2 t c = let i = c.in-Choose in
    choose_passed c.args.case _ i.likely i.at (expression_tree i.condition) (block_tree i.block)
    (block_tree i.otherwise) _ _ _ _
    c.is_entered-in-Choose.ensures c.pass-in-Choose.ensures
    (ap statement_tree i.is ∙ choose_tree i.at i.likely i.condition i.block i.otherwise) c.if-is_entered-2.false
    c.pass_block-else-is_entered-2.ensures

pub pass_statement-returns-in-Let : goal.pass_statement-returns-in-Let
pass_statement-returns-in-Let t c = let i = c.in-Let in
    quiet c.args.case _ _ _ (ap statement_tree i.is ∙ bind_tree i.at i.name i.value) refl refl

pub pass_statement-returns-in-Set : goal.pass_statement-returns-in-Set
pass_statement-returns-in-Set t c = let i = c.in-Set in
    quiet c.args.case _ _ _ (ap statement_tree i.is ∙ set_tree i.at i.name i.index i.value) refl refl

pub pass_statement-returns-in-SetSquare : goal.pass_statement-returns-in-SetSquare
pass_statement-returns-in-SetSquare t c = let i = c.in-SetSquare in
    quiet c.args.case _ _ _ (ap statement_tree i.is ∙ set_square_tree i.at i.name i.row i.column i.value) refl refl

pub pass_statement-returns-in-Emit : goal.pass_statement-returns-in-Emit
pass_statement-returns-in-Emit t c = let i = c.in-Emit in
    quiet c.args.case _ _ _ (ap statement_tree i.is ∙ emit_tree i.at i.direction i.kind i.arguments i.pushed) refl refl

pub pass_statements-loop-s-init : goal.pass_statements-loop-s-init
pass_statements-loop-s-init t c = passes_none _

pub pass_statements-loop-s-preserved : goal.pass_statements-loop-s-preserved
pass_statements-loop-s-preserved t c =
    block_more c.args.case c.args.all.now c.loop-s.s-index c.s-item.result _ _ _ c.loop-s-test.true c.s-item.is
    c.loop-s.invariant
    c.pass_statement.ensures
