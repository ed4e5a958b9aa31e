use Rattle.job_ends.specs.Shown.{shown_end}
use Rattle.hunt_run.specs.Reading.{request_shown}
use Rattle.hunt_run.proofs.Ran.{written, stopped}
use Rattle.hunt_run.proofs.over_sinks.hunt.Goals as goal

pub returns-in-Ok : goal.returns-in-Ok
returns-in-Ok g c = written (request_shown c.args.request) _ _ _ c.in-Ok.output _ _ (shown_end c.write.result)
    c.in-Ok.ensures c.write.ensures

pub returns-in-Err : goal.returns-in-Err
returns-in-Err g c = stopped (request_shown c.args.request) _ _ _ _ (shown_end c.in-Err.ending) c.in-Err.ensures
