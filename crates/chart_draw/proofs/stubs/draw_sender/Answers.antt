use Rattle.std.proofs.Common.{arith}
use Rattle.chart_draw.specs.Scenes.{scene_lines}
use Rattle.chart_draw.proofs.Stubbed.{stubs_step}
use Rattle.chart_draw.proofs.stubs.draw_sender.Goals as goal

pub loop-line-preserved : goal.loop-line-preserved
loop-line-preserved c =
    stubs_step (scene_lines c.args.scene.now) c.args.scene.now.rows c.args.sender c.loop-line.known _
    c.args.scene.now.lines.now c.loop-line.line-index _ _ _ _ (omega arith)
    c.in_ok-draw_stubs_at.ensures c.view_after-known.ensures c.loop-line.invariant
