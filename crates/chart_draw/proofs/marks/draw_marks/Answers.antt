use Rattle.std.proofs.Common.{arith}
use Rattle.std.specs.HashMap as hash
use Rattle.chart_draw.specs.Bearers.{same_word}
use Rattle.chart_draw.specs.Reading.{manner_shown}
use Rattle.chart_draw.proofs.Marked.{drawn_more}
use Rattle.chart_draw.proofs.marks.draw_marks.Goals as goal

pub loop-line-preserved : goal.loop-line-preserved
loop-line-preserved c =
    drawn_more (manner_shown c.args.manner) c.args.lines.now c.loop-line.line-index _ _ _ _ _
    (hash.get same_word c.loop-line.bearers) (hash.get same_word c.note.new.bearers)
    (omega arith) c.loop-line.invariant c.bringer-sent.ensures c.in_ok-draw_mark.ensures c.in_ok-note.ensures
