use Rattle.std.proofs.Common.{◌≡◌, take}
use Rattle.std.specs.Prelude.{map}
use Rattle.chart_mean.specs.Place.{rows}
use Rattle.chart_draw.specs.Reading.{line_shown}
use Rattle.chart_draw.proofs.lines.count_rows.Given as goal

abbrev pub invariant-loop-line : goal.invariant-loop-line
invariant-loop-line l = l.most ≡ rows (map line_shown (take l.line-index l.lines))
