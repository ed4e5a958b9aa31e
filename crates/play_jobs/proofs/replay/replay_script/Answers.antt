use Rattle.std.proofs.Common.{refl, sym, subst}
use Rattle.stack_judge.specs.Answer.{stack_tree}
use Rattle.job_mean.specs.Job.{replay}
use Rattle.job_ends.specs.Comes.{around, Comes}
use Rattle.job_ends.specs.Shown.{shown_end}
use Rattle.play_jobs.proofs.Events.{few_read}
use Rattle.play_jobs.proofs.Plays.{replay_comes}
use Rattle.file_jobs.proofs.SecondStops.{stops}
use Rattle.file_jobs.proofs.Sound.{means_sound}
use Rattle.group_mean.specs.Shown.{shown_mode}
use Rattle.group_open.proofs.Running.{can_run}
use Rattle.play_jobs.proofs.replay.replay_script.Goals as goal

pub play-requires-clause-runs_stack : goal.play-requires-clause-runs_stack
play-requires-clause-runs_stack g c =
    can_run (shown_mode c.args.replay.now.mode) _ (means_sound _ _ c.in-Ok.ensures.read.means)

pub returns-in-Ok-fetch_script : goal.returns-in-Ok-fetch_script
returns-in-Ok-fetch_script g c =
    let job = c.args.replay.now in
    let a = around g.S.Shelf g.O.Sink c.args.shelf.now c.fetch_script.new.shelf c.args.out.now c.play.new.out in
    subst (Comes (replay job.file.now job.script.now (shown_mode job.mode) job.events job.wire job.count) a)
    (sym c.ending.ensures)
    (replay_comes job.file.now job.script.now a (g.S.Shelf.faults c.fetch_stack.new.shelf) (stack_tree c.in-Ok.stack)
    c.in-Ok-fetch_script.script
    (rw c.in-Ok.ensures.kept at c.in-Ok-fetch_script.ensures.read) (shown_mode job.mode) job.events job.wire job.count
    c.in-Ok.ensures.read c.play.result c.play.ensures)

pub returns-in-Err-fetch_script : goal.returns-in-Err-fetch_script
returns-in-Err-fetch_script g c = stops c.args.replay.now.file.now c.args.replay.now.script.now
    (shown_mode c.args.replay.now.mode) c.args.replay.now.events c.args.replay.now.wire c.args.replay.now.count
    (around g.S.Shelf g.O.Sink c.args.shelf.now c.fetch_script.new.shelf c.args.out.now c.args.out.now)
    (g.S.Shelf.faults c.fetch_stack.new.shelf) (stack_tree c.in-Ok.stack) (shown_end c.in-Err-fetch_script.ending)
    c.in-Ok.ensures.read
    (rw c.in-Ok.ensures.kept at c.in-Err-fetch_script.ensures.read) refl

pub play-requires-clause-few : goal.play-requires-clause-few
play-requires-clause-few g c = few_read c.in-Ok-fetch_script.ensures.read.text c.in-Ok-fetch_script.script
    c.in-Ok-fetch_script.ensures.read.spells
