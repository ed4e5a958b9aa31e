use Rattle.std.proofs.Common.{refl, sym, subst}
use Rattle.stack_judge.specs.Answer.{stack_tree}
use Rattle.layer_ast.specs.View.{file_tree}
use Rattle.job_mean.specs.Job.{explain}
use Rattle.job_ends.specs.Comes.{around, Comes}
use Rattle.job_ends.specs.Shown.{shown_end}
use Rattle.play_jobs.proofs.Events.{few_read}
use Rattle.play_jobs.proofs.Plays.{explain_comes}
use Rattle.file_jobs.proofs.SecondStops.{explain_stops}
use Rattle.file_jobs.proofs.Sound.{means_sound}
use Rattle.play_jobs.proofs.explain.explain_script.Goals as goal

pub explain_steps-run-requires-clause-sound : goal.explain_steps-run-requires-clause-sound
explain_steps-run-requires-clause-sound g c = means_sound _ _ c.in-Ok.ensures.read.is.means

pub explain_steps-run-requires-clause-few : goal.explain_steps-run-requires-clause-few
explain_steps-run-requires-clause-few g c = few_read c.in-Ok-fetch_script.ensures.read.text c.in-Ok-fetch_script.script
    c.in-Ok-fetch_script.ensures.read.spells

pub returns-in-Ok-fetch_script : goal.returns-in-Ok-fetch_script
returns-in-Ok-fetch_script g c =
    let job = c.args.explain.now in
    let a = around g.S.Shelf g.O.Sink c.args.shelf.now c.fetch_script.new.shelf c.args.out.now
    c.explain_steps-run.new.out in
    subst (Comes (explain job.file.now job.script.now) a) (sym c.ending.ensures)
    (explain_comes job.file.now job.script.now a (g.S.Shelf.faults c.fetch_file.new.shelf)
    (stack_tree c.in-Ok.found.stack) c.in-Ok-fetch_script.script
    (rw c.in-Ok.ensures.kept at c.in-Ok-fetch_script.ensures.read) (file_tree c.in-Ok.found.file)
    c.in-Ok.ensures.read.is c.in-Ok.ensures.read.tree
    c.explain_steps-run.result c.explain_steps-run.ensures)

pub returns-in-Err-fetch_script : goal.returns-in-Err-fetch_script
returns-in-Err-fetch_script g c = explain_stops c.args.explain.now.file.now c.args.explain.now.script.now
    (around g.S.Shelf g.O.Sink c.args.shelf.now c.fetch_script.new.shelf c.args.out.now c.args.out.now)
    (g.S.Shelf.faults c.fetch_file.new.shelf) (stack_tree c.in-Ok.found.stack) (shown_end c.in-Err-fetch_script.ending)
    c.in-Ok.ensures.read.is
    (rw c.in-Ok.ensures.kept at c.in-Err-fetch_script.ensures.read) refl
