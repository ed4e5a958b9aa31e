use Rattle.std.proofs.Common.{take}
use Rattle.std.specs.List.{enumerate_from, flat_map}
use Rattle.stack_judge.specs.Answer.{stack_tree}
use Rattle.layer_mean.specs.State.{cell_at, queues_in}
use Rattle.group_feed.specs.Showing.{state_at}
use Rattle.outside.specs.Lines.{Gains}
use Rattle.outside.specs.Tells.{tells_of}
use Rattle.typed_layer.specs.View.{layer_tree}
use Rattle.report_text.specs.Cells.{one_queue}
use Rattle.report_text.proofs.state.write_queues.Given as goal

abbrev pub invariant-loop-queue : goal.invariant-loop-queue
invariant-loop-queue g l = Gains
    (tells_of g.O.Sink l.initial.out)
    (tells_of g.O.Sink l.out)
    (flat_map (one_queue (stack_tree l.queues.stack.now) l.queues.spot.id l.queues.spot.place
    (layer_tree l.queues.layer.now) l.queues.is_array
    l.queues.name.now)
    (take l.queue (enumerate_from 0
    (queues_in (cell_at (state_at (g.S.Feed.group l.group) l.queues.spot.id l.queues.spot.place) l.queues.spot.cell)))))
