use Rattle.family_world.proofs.Kept.{begun_then, not_begun}
use Rattle.family_world.proofs.playground.begin.Goals as goal

pub returns : goal.returns
returns c =
    begun_then c.args.acts.now c.args.play.now _ _ c.begin_anew-2.result
    (not_begun c.args.acts.now _ _ c.restart.result c.if-restart.false c.restart.ensures) c.begin_anew-2.ensures
