use Rattle.stack_judge.specs.Answer.{stack_tree}
use Rattle.layer_mean.specs.State.{rows_at}
use Rattle.group_feed.specs.Showing.{state_at}
use Rattle.report_lines.proofs.Rows.{in_other_words}
use Rattle.run_mean.specs.Text.{rows_text}
use Rattle.typed_layer.specs.View.{layer_tree}
use Rattle.report_text.proofs.Shown.{queue_parts}
use Rattle.report_text.proofs.cells.build_queue.Goals as goal

pub returns : goal.returns
returns g c =
    let s = state_at (g.S.Feed.group c.args.group.now) c.args.queues.spot.id c.args.queues.spot.place in
    in_other_words _ _ _ _ _
    (queue_parts c.args.queues.is_array c.args.queues.spot.id c.args.queues.spot.place
    (layer_tree c.args.queues.layer.now)
    c.args.queues.name.now
    (rows_text (stack_tree c.args.queues.stack.now) (rows_at s c.args.queues.spot.cell c.args.queue)) c.args.queue)
    c.push_queue.ensures
