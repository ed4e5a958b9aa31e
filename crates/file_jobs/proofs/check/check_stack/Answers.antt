use Rattle.std.proofs.Common.{refl, [], ◌∷◌, ◌++◌, codes, ap, ◌∙◌}
use Rattle.std.specs.Fmt.{decimal}
use Rattle.stack_judge.specs.Answer.{stack_tree}
use Rattle.job_mean.specs.Job.{check}
use Rattle.job_ends.specs.Comes.{around}
use Rattle.job_ends.specs.Shown.{shown_end}
use Rattle.job_ends.proofs.Comes.{written}
use Rattle.file_jobs.proofs.Stops.{stops}
use Rattle.file_jobs.proofs.Texts.{accepted_as}
use Rattle.file_jobs.proofs.check.check_stack.Goals as goal

pub returns-in-Ok : goal.returns-in-Ok
returns-in-Ok g c = written (check c.args.file.now)
    (around g.S.Shelf g.O.Sink c.args.shelf.now c.fetch_stack.new.shelf c.args.out.now c.accept.new.out)
    (record {
      file = c.in-Ok.ensures.read.file;
      second = [];
      third = [];
      found = c.in-Ok.ensures.read.found;
      beside = refl;
      following = refl;
      lines = (codes "accepted " ++ decimal c.places_of.result ++ codes "\n") ∷ [];
      output = record {
        stack = stack_tree c.in-Ok.stack;
        means = c.in-Ok.ensures.read.means;
        written = ap (λ n. (codes "accepted " ++ decimal n ++ codes "\n") ∷ []) c.places_of.ensures ∙ accepted_as _;
      };
    })
    (shown_end c.accept.result) c.in-Ok.ensures.read.sound c.accept.ensures

pub returns-in-Err : goal.returns-in-Err
returns-in-Err g c = stops (check c.args.file.now)
    (around g.S.Shelf g.O.Sink c.args.shelf.now c.fetch_stack.new.shelf c.args.out.now c.args.out.now)
    (shown_end c.in-Err.ending) tt c.in-Err.ensures.read refl
