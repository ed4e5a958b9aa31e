use Rattle.chart_draw.proofs.Loops.{ArePlaced}
use Rattle.chart_draw.proofs.lines.placed.Given as goal

abbrev pub invariant-loop-place : goal.invariant-loop-place
invariant-loop-place l = ArePlaced l.hide l.first l.place l.texts l.lines.items l.end
