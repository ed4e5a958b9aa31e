use Rattle.std.proofs.Common.{arith, sym, subst}
use Rattle.stack_judge.specs.Answer.{stack_tree}
use Rattle.job_mean.specs.Job.{load}
use Rattle.job_ends.specs.Comes.{around, Comes}
use Rattle.play_jobs.proofs.Plays.{load_comes}
use Rattle.file_jobs.proofs.Sound.{means_sound}
use Rattle.group_mean.specs.Shown.{shown_mode}
use Rattle.group_open.proofs.Running.{can_run}
use Rattle.play_jobs.proofs.load.load_stack.Goals as goal

pub play_load-requires-clause-runs : goal.play_load-requires-clause-runs
play_load-requires-clause-runs g c =
    can_run (shown_mode c.args.load.now.mode) _ (means_sound _ _ c.in-Ok.ensures.read.means)

pub play_load-requires-clause-members : goal.play_load-requires-clause-members
play_load-requires-clause-members g c = rw c.workload_of.ensures c.args.load.now.within

pub play_load-requires-clause-few : goal.play_load-requires-clause-few
play_load-requires-clause-few g c = let few = c.args.load.now.few in rw c.workload_of.ensures (omega (arith, few))

pub returns-in-Ok : goal.returns-in-Ok
returns-in-Ok g c =
    let job = c.args.load.now in
    let a = around g.S.Shelf g.O.Sink c.args.shelf.now c.fetch_stack.new.shelf c.args.out.now c.play_load.new.out in
    subst (Comes (load job.file.now job.seed job.events job.members job.raw (shown_mode job.mode)) a)
    (sym c.ending.ensures)
    (load_comes job.file.now job.seed job.events job.members job.raw (shown_mode job.mode) a (stack_tree c.in-Ok.stack)
    c.in-Ok.ensures.read c.play_load.result
    (rw c.workload_of.ensures at c.play_load.ensures))
