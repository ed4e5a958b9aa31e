use Rattle.std.proofs.Common.{◌≡◌, ◌++◌, None}
use Rattle.chart_mean.specs.Stub.{stubs_from}
use Rattle.chart_draw.specs.Scenes.{scene_lines}
use Rattle.chart_draw.proofs.Stubbed.{stubs_left}
use Rattle.chart_draw.proofs.stubs.draw_sender.Given as goal

abbrev pub invariant-loop-line : goal.invariant-loop-line
invariant-loop-line l =
    l.text ++ stubs_left (scene_lines l.scene) l.scene.rows l.sender l.known l.scene.lines.now l.line-index
    ≡ l.initial.text ++ stubs_from (scene_lines l.scene) l.scene.rows l.sender None (scene_lines l.scene)
