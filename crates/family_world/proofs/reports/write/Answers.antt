use Rattle.std.proofs.Common.{refl}
use Rattle.family_world.proofs.Kept.{left_on, unnamed}
use Rattle.family_world.proofs.Reported.{at_first, lines_gained}
use Rattle.family_world.proofs.reports.write.Goals as goal

pub write_script-requires-clause-first : goal.write_script-requires-clause-first
write_script-requires-clause-first c =
    at_first c.args.script.now c.args.play.now c.args.play.now _ _ c.requires.first c.stack.ensures c.plans.ensures

pub returns-in-Ok : goal.returns-in-Ok
returns-in-Ok c = record {
  left =
      left_on c.args.script.now c.args.play.now _ c.requires.first.left.kept refl c.in-Ok.ensures.stays
      c.in-Ok.ensures.places (λ named. c.in-Ok.ensures.named);
  gained = lines_gained c.args.script.now _ _ _ _ _ _ c.stack.ensures c.plans.ensures c.in-Ok.ensures.wrote;
}

pub returns-in-Err : goal.returns-in-Err
returns-in-Err c =
    unnamed c.args.script.now c.args.play.now c.args.play.now _ c.requires.first.left refl c.in-Err.ensures.stays
    c.in-Err.ensures.places refl
