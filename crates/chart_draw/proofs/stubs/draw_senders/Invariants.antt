use Rattle.std.proofs.Common.{◌≡◌, ◌++◌}
use Rattle.chart_mean.specs.Stub.{senders_below}
use Rattle.chart_draw.specs.Scenes.{scene_lines}
use Rattle.chart_draw.proofs.stubs.draw_senders.Given as goal

abbrev pub invariant-loop-sender : goal.invariant-loop-sender
invariant-loop-sender l = l.text ≡ l.initial.text ++ senders_below (scene_lines l.scene) l.scene.rows l.sender
