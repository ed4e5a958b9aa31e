use Rattle.std.proofs.Common.{◌≡◌, ◌+◌, ◌≤◌, ◌++◌, length}
use Rattle.audit_mean.specs.Text.{lines_of}
use Rattle.chart_draw.specs.Reading.{pieces_left, texts_shown}
use Rattle.chart_draw.proofs.lines.all_lines.Given as goal

abbrev pub invariant-loop-line : goal.invariant-loop-line
invariant-loop-line l =
    (texts_shown l.lines.items ++ pieces_left l.line-iterator ≡ lines_of l.fn.text)
    × (length l.lines.items + length (pieces_left l.line-iterator) ≤ 67108865)
