use Rattle.std.proofs.Common.{sym, subst}
use Rattle.stack_judge.specs.Answer.{stack_tree}
use Rattle.job_ends.specs.Comes.{around}
use Rattle.play_jobs.specs.Traces.{PlaysTraces}
use Rattle.play_jobs.proofs.Plays.{has_room_for, played_traces}
use Rattle.play_jobs.proofs.given.play_traces.Goals as goal

pub returns-in-Ok : goal.returns-in-Ok
returns-in-Ok g c =
    let stack = stack_tree c.args.stack in
    let r = c.args.replay.now in
    let a = around g.S.Shelf g.O.Sink c.args.shelf.now c.fetch_traces.new.shelf c.args.out.now c.play_with-run.new.out
    in
    subst (PlaysTraces stack c.args.script.now r.traces.now r.events r.wire r.count a) (sym c.ending.ensures)
    (played_traces stack c.args.script.now r.traces.now r.events r.wire r.count a
    (has_room_for stack c.args.script.now.members c.if-not-has_room.ensures)
    c.in-Ok.ensures.0 c.play_with-run.result c.play_with-run.ensures)
