use Rattle.std.proofs.lemmas.Result.{err_from_is_err_and}
use Rattle.layer_eval.proofs.Acts.{block_step}
use Rattle.layer_eval.proofs.Needs.{owed_item_spent, owed_item_lacks}
use Rattle.layer_eval.specs.Owed.{with_debt_paid}
use Rattle.layer_eval.proofs.last.run_front.Goals as goal

pub run_owing-requires : goal.run_owing-requires
run_owing-requires g c = c.loop-statement.invariant.0

pub returns-in_err-run_owing-clause-spent : goal.returns-in_err-run_owing-clause-spent
returns-in_err-run_owing-clause-spent g c =
    let p = err_from_is_err_and c.from_residual.result c.from_residual.ensures.1 in
    rw (p.1, p.2)
    (owed_item_lacks g.K.Start.begun.layout c.args.statements.now c.loop-statement.statement-index
    c.statement-item.result c.args.pending.now c.loop-statement.pending (g.D.Desk.free c.args.pool.now c.args.desk.now)
    (g.D.Desk.free c.loop-statement.pool c.loop-statement.desk)
    c.in_err-run_owing.field-0.0 c.loop-statement-test.true c.statement-item.is
    c.loop-statement.invariant.2 c.in_err-run_owing.ensures.spent)

pub loop-statement-preserved : goal.loop-statement-preserved
loop-statement-preserved g c = (
  c.run_owing.ensures.ready,
  block_step c.args.place c.args.statements.now c.loop-statement.statement-index c.statement-item.result
      (with_debt_paid c.args.pending.now (g.D.Desk.shown c.args.pool.now c.args.desk.now))
      (with_debt_paid c.loop-statement.pending (g.D.Desk.shown c.loop-statement.pool c.loop-statement.desk))
      (with_debt_paid c.run_owing.new.pending (g.D.Desk.shown c.run_owing.new.pool c.run_owing.new.desk))
      c.args.predicted.now c.loop-statement.predicted c.run_owing.new.predicted
      c.loop-statement-test.true c.statement-item.is c.loop-statement.invariant.1 c.in_ok-run_owing.ensures.did,
  owed_item_spent g.K.Start.begun.layout c.args.statements.now c.loop-statement.statement-index c.statement-item.result
      c.args.pending.now c.loop-statement.pending c.run_owing.new.pending
      (g.D.Desk.free c.args.pool.now c.args.desk.now) (g.D.Desk.free c.loop-statement.pool c.loop-statement.desk)
      (g.D.Desk.free c.run_owing.new.pool c.run_owing.new.desk)
      c.loop-statement-test.true c.statement-item.is c.loop-statement.invariant.2 c.in_ok-run_owing.ensures.spent,
)
