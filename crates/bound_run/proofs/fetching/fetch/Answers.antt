use Rattle.file_jobs.proofs.Sound.{means_sound}
use Rattle.job_ends.specs.Shown.{shown_end}
use Rattle.stack_judge.specs.Answer.{stack_tree}
use Rattle.bound_run.specs.Reading.{request_shown}
use Rattle.bound_run.proofs.Fetched.{acts_unread, looked, unread}
use Rattle.bound_run.proofs.fetching.fetch.Goals as goal

pub look-requires-clause-sound : goal.look-requires-clause-sound
look-requires-clause-sound g c = means_sound _ _ c.in-Ok.ensures.read.means

pub look-requires-clause-runs : goal.look-requires-clause-runs
look-requires-clause-runs g c = c.in-Ok-fetch_acts.ensures.runs

pub returns-in-Ok-fetch_acts : goal.returns-in-Ok-fetch_acts
returns-in-Ok-fetch_acts g c =
    looked (request_shown c.args.request) _ _ (g.S.Shelf.faults c.fetch_stack.new.shelf) (stack_tree c.in-Ok.stack)
    c.in-Ok.ensures.read (g.S.Shelf.told c.fetch_stack.new.shelf) c.in-Ok.ensures.kept
    (g.S.Shelf.faults c.fetch_acts.new.shelf) c.in-Ok-fetch_acts.acts
    c.in-Ok-fetch_acts.ensures c.look.result c.look.ensures

pub returns-in-Err-fetch_acts : goal.returns-in-Err-fetch_acts
returns-in-Err-fetch_acts g c =
    acts_unread (request_shown c.args.request) _ _ (g.S.Shelf.faults c.fetch_stack.new.shelf)
    (stack_tree c.in-Ok.stack) c.in-Ok.ensures.read (g.S.Shelf.told c.fetch_stack.new.shelf) c.in-Ok.ensures.kept
    (g.S.Shelf.faults c.fetch_acts.new.shelf) (shown_end c.in-Err-fetch_acts.ending)
    c.in-Err-fetch_acts.ensures

pub returns-in-Err : goal.returns-in-Err
returns-in-Err g c =
    unread (request_shown c.args.request) _ _ _ (shown_end c.in-Err.ending) c.in-Err.ensures.read
