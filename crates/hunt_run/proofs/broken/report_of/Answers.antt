use Rattle.stack_judge.specs.Answer.{stack_tree}
use Rattle.file_jobs.proofs.Sound.{means_sound}
use Rattle.play_jobs.proofs.Plays.{has_room_for}
use Rattle.hunt_run.proofs.Played.{reports}
use Rattle.hunt_run.proofs.broken.report_of.Goals as goal

pub play-requires-clause-runs_stack : goal.play-requires-clause-runs_stack
play-requires-clause-runs_stack c = means_sound c.args.file.now (stack_tree c.in-Ok.stack) c.in-Ok.ensures

pub returns-in-Ok-play : goal.returns-in-Ok-play
returns-in-Ok-play c =
    reports c.args.file.now c.args.members (stack_tree c.in-Ok.stack) c.args.script.now _ _ c.contents.result.now
    c.in_ok-copy_of-in-Ok-play.field-0.items c.in-Ok.ensures
    (has_room_for (stack_tree c.in-Ok.stack) c.args.members c.if-not-has_room.ensures) c.in-Ok-play.ensures.1
    c.of-sink.ensures.contents c.contents.ensures c.in_ok-copy_of-in-Ok-play.ensures
