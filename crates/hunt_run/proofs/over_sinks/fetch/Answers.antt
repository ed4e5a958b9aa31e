use Rattle.job_ends.specs.Shown.{shown_end}
use Rattle.hunt_run.specs.Reading.{request_shown}
use Rattle.hunt_run.proofs.Ran.{fetched, unread}
use Rattle.hunt_run.proofs.over_sinks.fetch.Goals as goal

pub returns-in-Ok : goal.returns-in-Ok
returns-in-Ok g c = fetched (request_shown c.args.request) _ _ _ c.in-Ok.file.items _ c.in-Ok.ensures
    (rw c.deref.ensures.value at c.look.ensures)

pub returns-in-Err : goal.returns-in-Err
returns-in-Err g c = unread (request_shown c.args.request) _ _ _ (shown_end c.in-Err.ending) c.in-Err.ensures
