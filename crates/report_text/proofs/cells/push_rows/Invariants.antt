use Rattle.std.proofs.Common.{◌≡◌, ◌++◌, take, codes}
use Rattle.std.specs.List.{join_by}
use Rattle.stack_judge.specs.Answer.{stack_tree}
use Rattle.layer_mean.specs.State.{rows_at}
use Rattle.group_feed.specs.Showing.{state_at}
use Rattle.run_mean.specs.Text.{row_text}
use Rattle.report_text.proofs.cells.push_rows.Given as goal

abbrev pub invariant-loop-k : goal.invariant-loop-k
invariant-loop-k g l =
    l.line ≡ l.initial.line
    ++ join_by (row_text (stack_tree l.queues.stack.now)) (codes " ")
    (take l.k (rows_at (state_at (g.S.Feed.group l.group) l.queues.spot.id l.queues.spot.place) l.queues.spot.cell
    l.queue))
