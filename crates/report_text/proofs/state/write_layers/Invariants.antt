use Rattle.std.proofs.Common.{take}
use Rattle.std.specs.List.{enumerate_from, flat_map}
use Rattle.stack_judge.specs.Answer.{stack_tree}
use Rattle.group_feed.specs.Showing.{shown_in}
use Rattle.outside.specs.Lines.{Gains}
use Rattle.outside.specs.Tells.{tells_of}
use Rattle.report_text.specs.Cells.{layer_shown}
use Rattle.report_text.proofs.state.write_layers.Given as goal

abbrev pub invariant-loop-place : goal.invariant-loop-place
invariant-loop-place g l = Gains
    (tells_of g.O.Sink l.initial.out)
    (tells_of g.O.Sink l.out)
    (flat_map (layer_shown (stack_tree l.stack) l.id (shown_in (g.S.Feed.group l.group) l.id))
    (take l.place (enumerate_from 0 (stack_tree l.stack))))
