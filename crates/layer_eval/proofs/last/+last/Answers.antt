use Rattle.std.proofs.Common.{arith}
use Rattle.std.proofs.lemmas.Result.{err_from_is_err_and}
use Rattle.layer_eval.proofs.Acts.{block_ends, on_ok}
use Rattle.layer_eval.proofs.Needs.{front_lacks, last_spent}
use Rattle.layer_eval.specs.Owed.{with_debt_paid}
use Rattle.layer_eval.proofs.last.+last.Goals as goal

pub run_last_block-returns-in_err-run_front-in-len1-up-clause-spent :
    goal.run_last_block-returns-in_err-run_front-in-len1-up-clause-spent
run_last_block-returns-in_err-run_front-in-len1-up-clause-spent g t c =
    let p = err_from_is_err_and c.from_residual.result c.from_residual.ensures.1 in
    rw (p.1, p.2)
    (front_lacks g.K.Start.begun.layout c.as_slice.result.now c.args.block.now.statements.items c.last-item-2.result
    c.args.pending.now
    (g.D.Desk.free c.args.pool.now c.args.desk.now) c.in_err-run_front-in-len1-up.field-0.0
    c.as_slice.ensures.value (omega (arith, c.in-len1-up.len_at_least)) c.last-item-2.is
    c.in_err-run_front-in-len1-up.ensures.spent)

pub run_last_block-returns-in_ok-run_front-in-len1-up-clause-ended :
    goal.run_last_block-returns-in_ok-run_front-in-len1-up-clause-ended
run_last_block-returns-in_ok-run_front-in-len1-up-clause-ended g t c =
    on_ok c.run_last-in-len1-up.result
    (block_ends c.args.place c.as_slice.result.now c.args.block.now.statements.items c.last-item-2.result
    (with_debt_paid c.args.pending.now (g.D.Desk.shown c.args.pool.now c.args.desk.now))
    (with_debt_paid c.run_front.new.pending (g.D.Desk.shown c.run_front.new.pool c.run_front.new.desk))
    (g.D.Desk.shown c.run_last-in-len1-up.new.pool c.run_last-in-len1-up.new.desk)
    c.args.predicted.now c.run_front.new.predicted c.run_last-in-len1-up.new.predicted
    c.as_slice.ensures.value (omega (arith, c.in-len1-up.len_at_least)) c.last-item-2.is
    c.in_ok-run_front-in-len1-up.ensures.did)
    c.run_last-in-len1-up.ensures.ended

pub run_last_block-returns-in_ok-run_front-in-len1-up-clause-spent :
    goal.run_last_block-returns-in_ok-run_front-in-len1-up-clause-spent
run_last_block-returns-in_ok-run_front-in-len1-up-clause-spent g t c =
    last_spent g.K.Start.begun.layout c.as_slice.result.now c.args.block.now.statements.items c.last-item-2.result
    c.args.pending.now c.run_front.new.pending (g.D.Desk.free c.args.pool.now c.args.desk.now)
    (g.D.Desk.free c.run_front.new.pool c.run_front.new.desk)
    (g.D.Desk.free c.run_last-in-len1-up.new.pool c.run_last-in-len1-up.new.desk) c.run_last-in-len1-up.result
    c.as_slice.ensures.value (omega (arith, c.in-len1-up.len_at_least)) c.last-item-2.is
    c.in_ok-run_front-in-len1-up.ensures.spent c.run_last-in-len1-up.ensures.spent
