use Rattle.std.proofs.Common.{refl}
use Rattle.stack_judge.specs.Answer.{stack_tree}
use Rattle.job_ends.specs.Comes.{around}
use Rattle.job_ends.specs.Shown.{shown_end}
use Rattle.file_jobs.proofs.Sound.{means_sound}
use Rattle.node_jobs.specs.Comes.{beyond}
use Rattle.node_jobs.specs.Plan.{words_of}
use Rattle.node_jobs.proofs.Runs.{ran}
use Rattle.node_jobs.proofs.Stops.{stopped_at_plan}
use Rattle.node_jobs.proofs.node.run_node.Goals as goal

pub serve_plan-requires-clause-sound : goal.serve_plan-requires-clause-sound
serve_plan-requires-clause-sound g c = means_sound _ _ c.in-Ok.ensures.read.means

pub returns-in-Ok-fetch_plan : goal.returns-in-Ok-fetch_plan
returns-in-Ok-fetch_plan g c = ran (words_of c.args.node.now)
    (around g.S.Shelf g.O.Sink c.args.shelf.now c.fetch_plan.new.shelf c.args.out.now c.serve_plan.new.out)
    (beyond g.N.Links g.C.Clock c.args.links.now c.serve_plan.new.links c.args.clock.now c.serve_plan.new.clock)
    (g.S.Shelf.faults c.fetch_stack.new.shelf) (stack_tree c.in-Ok.stack) c.in-Ok-fetch_plan.plan c.in-Ok.ensures.read
    (rw c.in-Ok.ensures.kept at c.in-Ok-fetch_plan.ensures) (shown_end c.serve_plan.result) c.serve_plan.ensures

pub returns-in-Err-fetch_plan : goal.returns-in-Err-fetch_plan
returns-in-Err-fetch_plan g c = stopped_at_plan (words_of c.args.node.now)
    (around g.S.Shelf g.O.Sink c.args.shelf.now c.fetch_plan.new.shelf c.args.out.now c.args.out.now)
    (beyond g.N.Links g.C.Clock c.args.links.now c.args.links.now c.args.clock.now c.args.clock.now)
    (record { faults = refl; sends = refl; told = refl; clock = refl }) refl
    (g.S.Shelf.faults c.fetch_stack.new.shelf) (stack_tree c.in-Ok.stack) (shown_end c.in-Err-fetch_plan.ending)
    c.in-Ok.ensures.read
    (rw c.in-Ok.ensures.kept at c.in-Err-fetch_plan.ensures)
