use Rattle.std.proofs.Common.{◌≡◌, ◌++◌}
use Rattle.chart_mean.specs.Row.{first_turn}
use Rattle.chart_draw.proofs.Stays.{stays_from}
use Rattle.chart_draw.proofs.rows.draw_stays.Given as goal

abbrev pub invariant-loop-line : goal.invariant-loop-line
invariant-loop-line l =
    l.text ++ stays_from l.member l.end l.turn l.lines l.line-index ≡ l.initial.text ++
    stays_from l.member l.end first_turn l.lines 0
