use Rattle.std.proofs.Common.{codes, arith}
use Rattle.stack_judge.specs.Answer.{stack_tree}
use Rattle.layer_mean.specs.State.{rows_at}
use Rattle.group_feed.specs.Showing.{state_at}
use Rattle.run_mean.specs.Text.{row_text}
use Rattle.report_lines.proofs.Joined.{line_next}
use Rattle.report_text.specs.Cells.{no_row}
use Rattle.report_text.proofs.cells.push_rows.Goals as goal

pub loop-k-preserved : goal.loop-k-preserved
loop-k-preserved g c =
    let s = state_at (g.S.Feed.group c.args.group.now) c.args.queues.spot.id c.args.queues.spot.place in
    line_next (row_text (stack_tree c.args.queues.stack.now)) (codes " ")
    (rows_at s c.args.queues.spot.cell c.args.queue) c.loop-k.k no_row _ _ _
    c.loop-k.invariant c.in_ok-push_row_at.ensures (omega (arith, c.loop-k-test.true, c.rows-count.ensures))
