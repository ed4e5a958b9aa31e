use Rattle.std.proofs.Common.{◌≡◌, ◌++◌}
use Rattle.chart_mean.specs.Stub.{stubs_below}
use Rattle.chart_draw.specs.Scenes.{post_shown, scene_lines}
use Rattle.chart_draw.proofs.stubs.draw_post.Given as goal

abbrev pub invariant-loop-member : goal.invariant-loop-member
invariant-loop-member l = l.text ≡ l.initial.text ++ stubs_below (scene_lines l.scene) (post_shown l.post) l.member
