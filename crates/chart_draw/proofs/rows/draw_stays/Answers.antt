use Rattle.std.proofs.Common.{arith}
use Rattle.chart_draw.proofs.Stays.{stays_step}
use Rattle.chart_draw.proofs.rows.draw_stays.Goals as goal

pub loop-line-preserved : goal.loop-line-preserved
loop-line-preserved c =
    stays_step c.args.member c.args.end c.args.lines.now c.loop-line.line-index _ _ _ _ _ _ (omega arith)
    c.in_ok-turn.ensures c.loop-line.invariant
