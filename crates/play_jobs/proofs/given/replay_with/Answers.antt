use Rattle.std.proofs.Common.{refl}
use Rattle.stack_judge.specs.Answer.{stack_tree}
use Rattle.job_ends.specs.Comes.{around}
use Rattle.job_ends.specs.Shown.{shown_end}
use Rattle.file_jobs.proofs.SecondStops.{with_stops}
use Rattle.file_jobs.proofs.Sound.{means_sound}
use Rattle.play_jobs.proofs.Events.{few_read}
use Rattle.play_jobs.proofs.Plays.{with_comes}
use Rattle.play_jobs.proofs.given.replay_with.Goals as goal

pub play_traces-requires-clause-sound : goal.play_traces-requires-clause-sound
play_traces-requires-clause-sound g c = means_sound _ _ c.in-Ok.ensures.read.means

pub play_traces-requires-clause-few : goal.play_traces-requires-clause-few
play_traces-requires-clause-few g c =
    few_read c.in-Ok-fetch_script.ensures.read.text c.in-Ok-fetch_script.script c.in-Ok-fetch_script.ensures.read.spells

pub returns-in-Ok-fetch_script : goal.returns-in-Ok-fetch_script
returns-in-Ok-fetch_script g c =
    let r = c.args.replay.now in
    let a = around g.S.Shelf g.O.Sink c.args.shelf.now c.play_traces.new.shelf c.args.out.now c.play_traces.new.out in
    with_comes r.file.now r.script.now r.traces.now r.events r.wire r.count a (g.S.Shelf.faults c.fetch_stack.new.shelf)
    (g.S.Shelf.faults c.fetch_script.new.shelf)
    (stack_tree c.in-Ok.stack) c.in-Ok-fetch_script.script c.in-Ok.ensures.read
    (rw c.in-Ok.ensures.kept at c.in-Ok-fetch_script.ensures.read)
    (shown_end c.play_traces.result)
    (rw (c.in-Ok-fetch_script.ensures.kept, c.in-Ok.ensures.kept) at c.play_traces.ensures)

pub returns-in-Err-fetch_script : goal.returns-in-Err-fetch_script
returns-in-Err-fetch_script g c = with_stops c.args.replay.now.file.now c.args.replay.now.script.now
    c.args.replay.now.traces.now c.args.replay.now.events c.args.replay.now.wire
    c.args.replay.now.count
    (around g.S.Shelf g.O.Sink c.args.shelf.now c.fetch_script.new.shelf c.args.out.now c.args.out.now)
    (g.S.Shelf.faults c.fetch_stack.new.shelf) (stack_tree c.in-Ok.stack) (shown_end c.in-Err-fetch_script.ending)
    c.in-Ok.ensures.read
    (rw c.in-Ok.ensures.kept at c.in-Err-fetch_script.ensures.read) refl
