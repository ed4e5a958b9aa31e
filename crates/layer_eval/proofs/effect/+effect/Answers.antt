use Rattle.std.proofs.Common.{ap, ◌∙◌, rules, arith}
use Rattle.std.proofs.lemmas.Result.{err_from_is_err_and}
use Rattle.layer_mean.specs.Effect.{in_order, acts}
use Rattle.typed_layer.specs.View.{expression_tree, statement_tree, block_tree}
use Rattle.layer_eval.proofs.Acts.{block_step, turn_step, branch_first}
use Rattle.layer_eval.proofs.Nothing.{did_nothing}
use Rattle.layer_eval.proofs.Needs.{item_lacks, item_spent, turns_lack, turns_spent, turn_spent}
use Rattle.layer_eval.proofs.Trees.{branch_tree, each_tree}
use Rattle.layer_eval.proofs.effect.+effect.Goals as goal

pub run_statements-returns-in_err-run_statement-clause-spent :
    goal.run_statements-returns-in_err-run_statement-clause-spent
run_statements-returns-in_err-run_statement-clause-spent g t c =
    let p = err_from_is_err_and c.from_residual.result c.from_residual.ensures.1 in
    rw (p.1, p.2)
    (item_lacks g.K.Start.begun.layout c.args.statements.now c.loop-statement.statement-index
    c.statement-item.result (g.D.Desk.free c.args.pool.now c.args.desk.now)
    (g.D.Desk.free c.loop-statement.pool c.loop-statement.desk)
    c.in_err-run_statement.field-0.0 c.loop-statement-test.true c.statement-item.is
    c.loop-statement.invariant.2 c.in_err-run_statement.ensures.spent)

pub run_statements-loop-statement-preserved : goal.run_statements-loop-statement-preserved
run_statements-loop-statement-preserved g t c = (
  c.run_statement.ensures.ready,
  block_step c.args.place c.args.statements.now c.loop-statement.statement-index c.statement-item.result
      (g.D.Desk.shown c.args.pool.now c.args.desk.now) (g.D.Desk.shown c.loop-statement.pool c.loop-statement.desk)
      (g.D.Desk.shown c.run_statement.new.pool c.run_statement.new.desk) c.args.predicted.now c.loop-statement.predicted
      c.run_statement.new.predicted
      c.loop-statement-test.true c.statement-item.is c.loop-statement.invariant.1 c.in_ok-run_statement.ensures.did,
  item_spent g.K.Start.begun.layout c.args.statements.now c.loop-statement.statement-index c.statement-item.result
      (g.D.Desk.free c.args.pool.now c.args.desk.now) (g.D.Desk.free c.loop-statement.pool c.loop-statement.desk)
      (g.D.Desk.free c.run_statement.new.pool c.run_statement.new.desk)
      c.loop-statement-test.true c.statement-item.is c.loop-statement.invariant.2 c.in_ok-run_statement.ensures.spent,
)

pub run_statement-returns-in_err-run_block-in-Each-clause-spent :
    goal.run_statement-returns-in_err-run_block-in-Each-clause-spent
run_statement-returns-in_err-run_block-in-Each-clause-spent g t c =
    let p = err_from_is_err_and c.from_residual-in_err-run_block-in-Each.result
    c.from_residual-in_err-run_block-in-Each.ensures.1 in
    rw (p.1, p.2)
    (turns_lack g.K.Start.begun.layout (g.D.Desk.free c.args.pool.now c.args.desk.now)
    (g.D.Desk.free c.loop-turn.pool c.loop-turn.desk)
    (g.D.Desk.free c.loop-turn.pool c.bind.new.self) c.loop-turn.turn c.in-Each.slot c.in-Each.most
    (expression_tree c.in-Each.below) (block_tree c.in-Each.block) (statement_tree c.args.statement.now)
    c.in_err-run_block-in-Each.field-0.0
    (ap statement_tree c.in-Each.is ∙ each_tree c.in-Each.slot c.in-Each.below c.in-Each.most c.in-Each.block)
    (omega (arith, c.loop-turn-test.true, c.min-turns.ensures, c.from.ensures)) c.loop-turn.invariant.2
    c.bind.ensures.free
    c.in_err-run_block-in-Each.ensures.spent)

pub run_statement-loop-turn-preserved : goal.run_statement-loop-turn-preserved
run_statement-loop-turn-preserved g t c = (
  c.run_block-in-loop-turn.ensures.ready,
  turn_step c.loop-turn.turn c.in-Each.slot (in_order (acts c.args.place (block_tree c.in-Each.block)))
      (g.D.Desk.shown c.args.pool.now c.args.desk.now) (g.D.Desk.shown c.loop-turn.pool c.loop-turn.desk)
      (g.D.Desk.shown c.loop-turn.pool c.bind.new.self)
      (g.D.Desk.shown c.run_block-in-loop-turn.new.pool c.run_block-in-loop-turn.new.desk)
      c.args.predicted.now c.loop-turn.predicted c.run_block-in-loop-turn.new.predicted
      c.loop-turn.invariant.1 c.bind.ensures.shown c.in_ok-run_block-in-Each.ensures.did,
  turn_spent g.K.Start.begun.layout (g.D.Desk.free c.args.pool.now c.args.desk.now)
      (g.D.Desk.free c.loop-turn.pool c.loop-turn.desk)
      (g.D.Desk.free c.loop-turn.pool c.bind.new.self)
      (g.D.Desk.free c.run_block-in-loop-turn.new.pool c.run_block-in-loop-turn.new.desk) c.loop-turn.turn
      (block_tree c.in-Each.block)
      c.loop-turn.invariant.2 c.bind.ensures.free c.in_ok-run_block-in-Each.ensures.spent,
)

pub run_statement-returns-in_ok-run_block-in-Branch-clause-did :
    goal.run_statement-returns-in_ok-run_block-in-Branch-clause-did
run_statement-returns-in_ok-run_block-in-Branch-clause-did g t c =
    branch_first c.args.place c.in-Branch.likely (expression_tree c.in-Branch.condition) (block_tree c.in-Branch.block)
    (block_tree c.in-Branch.otherwise) (statement_tree c.args.statement.now)
    (g.D.Desk.shown c.args.pool.now c.args.desk.now)
    (g.D.Desk.shown c.run_block-then-number-ne0.new.pool c.run_block-then-number-ne0.new.desk) c.number.result
    c.args.predicted.now c.run_block-then-number-ne0.new.predicted c.choose.new.self
    (ap statement_tree c.in-Branch.is ∙ branch_tree c.in-Branch.likely c.in-Branch.condition c.in-Branch.block
    c.in-Branch.otherwise)
    c.number.ensures (search rules) c.in_ok-run_block-in-Branch.ensures.did (search rules)

pub run_statement-returns-after-loop-turn-clause-spent : goal.run_statement-returns-after-loop-turn-clause-spent
run_statement-returns-after-loop-turn-clause-spent g t c =
    turns_spent g.K.Start.begun.layout (g.D.Desk.free c.args.pool.now c.args.desk.now)
    (g.D.Desk.free c.loop-turn.pool c.loop-turn.desk)
    c.loop-turn.turn c.in-Each.slot c.in-Each.most (expression_tree c.in-Each.below) (block_tree c.in-Each.block)
    (statement_tree c.args.statement.now)
    (ap statement_tree c.in-Each.is ∙ each_tree c.in-Each.slot c.in-Each.below c.in-Each.most c.in-Each.block)
    (omega (arith, c.loop-turn-test.false, c.loop-turn.auto.turn-end, c.min-turns.ensures, c.from.ensures))
    c.loop-turn.invariant.2

pub run_single-returns-then-finds_nothing-clause-did : goal.run_single-returns-then-finds_nothing-clause-did
run_single-returns-then-finds_nothing-clause-did g t c =
    did_nothing _ (g.D.Desk.shown c.args.pool.now c.args.desk.now) c.args.predicted.now c.unusual.result
    (c.if-finds_nothing.ensures c.args.place)
    c.unusual.ensures
