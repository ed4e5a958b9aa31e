use Rattle.stack_judge.specs.Answer.{stack_tree}
use Rattle.file_jobs.proofs.Sound.{means_sound}
use Rattle.play_jobs.proofs.Plays.{has_room_for}
use Rattle.hunt_run.specs.Reading.{request_shown}
use Rattle.hunt_run.proofs.Looked.{looked}
use Rattle.hunt_run.proofs.hunt.look_over.Goals as goal

pub new-requires : goal.new-requires
new-requires g c = means_sound c.args.file.now (stack_tree c.args.stack) c.requires

pub returns-in-Ok : goal.returns-in-Ok
returns-in-Ok g c =
    looked (request_shown c.args.request) c.args.file.now (stack_tree c.args.stack) c.all_runs-made.result c.requires
    (has_room_for (stack_tree c.args.stack) c.args.request.members c.if-not-has_room.ensures)
    c.all_runs-made.ensures.goes
