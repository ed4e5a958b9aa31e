use Rattle.std.proofs.Common.{◌≡◌, ◌++◌}
use Rattle.std.specs.Prelude.{map}
use Rattle.chart_mean.specs.Row.{rows_below}
use Rattle.chart_draw.specs.Reading.{line_shown}
use Rattle.chart_draw.proofs.rows.draw_rows.Given as goal

abbrev pub invariant-loop-member : goal.invariant-loop-member
invariant-loop-member l = l.text ≡ l.initial.text ++ rows_below l.member l.end (map line_shown l.lines)
