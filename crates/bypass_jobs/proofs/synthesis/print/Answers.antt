use Rattle.std.proofs.Common.{refl}
use Rattle.stack_judge.specs.Answer.{stack_tree}
use Rattle.job_ends.specs.Comes.{around}
use Rattle.job_ends.specs.Shown.{shown_end}
use Rattle.bypass_jobs.proofs.Written.{print_comes, print_stops}
use Rattle.bypass_jobs.proofs.synthesis.print.Goals as goal

pub returns-in-Ok : goal.returns-in-Ok
returns-in-Ok g c = print_comes c.args.what c.args.file.now
    (around g.S.Shelf g.O.Sink c.args.shelf.now c.fetch_stack.new.shelf c.args.out.now c.write-ending.new.out)
    (stack_tree c.in-Ok.stack) c.in-Ok.ensures.read (shown_end c.write-ending.result) c.write-ending.ensures

pub returns-in-Err : goal.returns-in-Err
returns-in-Err g c = print_stops c.args.what c.args.file.now
    (around g.S.Shelf g.O.Sink c.args.shelf.now c.fetch_stack.new.shelf c.args.out.now c.args.out.now)
    (shown_end c.in-Err.ending) c.in-Err.ensures.read refl
