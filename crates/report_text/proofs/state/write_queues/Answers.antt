use Rattle.std.proofs.Common.{[], arith, refl}
use Rattle.std.proofs.lemmas.Result.{err_from_is_err_and}
use Rattle.stack_judge.specs.Answer.{stack_tree}
use Rattle.layer_mean.specs.State.{cell_at, queues_in, rows_at}
use Rattle.group_feed.specs.Showing.{state_at}
use Rattle.outside.proofs.Turns.{turns_cut, turns_done, turns_more}
use Rattle.typed_layer.specs.View.{layer_tree}
use Rattle.report_text.specs.Cells.{one_queue}
use Rattle.report_text.proofs.state.write_queues.Goals as goal

pub loop-queue-preserved : goal.loop-queue-preserved
loop-queue-preserved g c =
    let queues = c.args.queues in
    let s = state_at (g.S.Feed.group c.args.group.now) c.args.queues.spot.id c.args.queues.spot.place in
    turns_more
    (one_queue (stack_tree c.args.queues.stack.now) c.args.queues.spot.id c.args.queues.spot.place
    (layer_tree queues.layer.now)
    queues.is_array queues.name.now)
    (queues_in (cell_at s c.args.queues.spot.cell)) c.loop-queue.queue
    (rows_at s c.args.queues.spot.cell c.loop-queue.queue) [] _ _ _
    c.loop-queue.invariant c.in_ok-write_queue.ensures
    (omega (arith, c.loop-queue-test.true, c.queues_count-queue-end.ensures)) refl

pub returns-in_err-write_queue : goal.returns-in_err-write_queue
returns-in_err-write_queue g c =
    let queues = c.args.queues in
    let s = state_at (g.S.Feed.group c.args.group.now) c.args.queues.spot.id c.args.queues.spot.place in
    let p = err_from_is_err_and c.from_residual.result c.from_residual.ensures.1 in
    rw (p.1, p.2) (turns_cut
    (one_queue (stack_tree c.args.queues.stack.now) c.args.queues.spot.id c.args.queues.spot.place
    (layer_tree queues.layer.now)
    queues.is_array queues.name.now)
    (queues_in (cell_at s c.args.queues.spot.cell)) c.loop-queue.queue
    (rows_at s c.args.queues.spot.cell c.loop-queue.queue) [] _ _ _
    _
    c.loop-queue.invariant c.in_err-write_queue.ensures
    (omega (arith, c.loop-queue-test.true, c.queues_count-queue-end.ensures)) refl)

pub returns : goal.returns
returns g c =
    let queues = c.args.queues in
    let s = state_at (g.S.Feed.group c.args.group.now) c.args.queues.spot.id c.args.queues.spot.place in
    turns_done
    (one_queue (stack_tree c.args.queues.stack.now) c.args.queues.spot.id c.args.queues.spot.place
    (layer_tree queues.layer.now)
    queues.is_array queues.name.now)
    (queues_in (cell_at s c.args.queues.spot.cell)) c.loop-queue.queue _ _ c.loop-queue.invariant
    (omega (arith, c.loop-queue-test.false, c.queues_count-queue-end.ensures))
