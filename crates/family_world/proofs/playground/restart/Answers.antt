use Rattle.std.proofs.Common.{refl, sym}
use Rattle.family_world.proofs.Kept.{restarted}
use Rattle.family_world.proofs.playground.restart.Goals as goal

pub returns : goal.returns
returns c =
    restarted c.args._acts.now c.args.play.now _ c.restart-again.result c.requires.kept c.requires.named refl
    c.restart-again.ensures.stays refl refl c.restart-again.ensures.again
