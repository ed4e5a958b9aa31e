use Rattle.std.proofs.Common.{take}
use Rattle.std.specs.List.{enumerate_from, flat_map}
use Rattle.stack_judge.specs.Answer.{stack_tree}
use Rattle.group_feed.specs.Showing.{state_at}
use Rattle.run_mean.specs.Report.{cell_lines}
use Rattle.outside.specs.Lines.{Gains}
use Rattle.outside.specs.Tells.{tells_of}
use Rattle.typed_layer.specs.View.{layer_tree}
use Rattle.report_text.proofs.state.write_layer.Given as goal

abbrev pub invariant-loop-number : goal.invariant-loop-number
invariant-loop-number g l = Gains
    (tells_of g.O.Sink l.initial.out)
    (tells_of g.O.Sink l.out)
    (flat_map (cell_lines (stack_tree l.shown.stack.now) l.shown.id l.shown.place (layer_tree l.shown.layer.now)
    (state_at (g.S.Feed.group l.group) l.shown.id l.shown.place))
    (take l.number (enumerate_from 0 (layer_tree l.shown.layer.now).cells)))
