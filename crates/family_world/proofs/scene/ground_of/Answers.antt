use Rattle.family_world.proofs.Judged.{not_begun_over}
use Rattle.family_world.proofs.scene.ground_of.Goals as goal

pub returns-in-Err : goal.returns-in-Err
returns-in-Err c =
    not_begun_over _ _ c.line_of.result c.args.acts.now c.in-Err.error c.in_ok-ground.ensures c.line_of.ensures.members
    c.in-Err.ensures.begins
