use Rattle.std.proofs.Common.{take}
use Rattle.std.specs.Prelude.{map}
use Rattle.std.specs.HashMap as hash
use Rattle.chart_draw.specs.Bearers.{same_word}
use Rattle.chart_draw.specs.Reading.{line_shown, manner_shown}
use Rattle.chart_draw.proofs.Marked.{AreDrawn}
use Rattle.chart_draw.proofs.marks.draw_marks.Given as goal

abbrev pub invariant-loop-line : goal.invariant-loop-line
invariant-loop-line l =
    AreDrawn (manner_shown l.manner) (map line_shown (take l.line-index l.lines)) l.initial.text l.text
    (hash.get same_word l.bearers)
