use Rattle.family_world.proofs.Kept.{at_itself, left_then}
use Rattle.family_world.proofs.Reported.{contents_are}
use Rattle.family_world.proofs.reports.tell.Goals as goal

pub write-requires-clause-first : goal.write-requires-clause-first
write-requires-clause-first c = at_itself c.args.script.now c.args.play.now c.begin.new.play c.in_ok-begin.ensures
