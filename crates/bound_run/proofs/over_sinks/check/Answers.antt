use Rattle.bound_run.specs.Reading.{request_shown}
use Rattle.bound_run.specs.Shown.{shown_finish}
use Rattle.bound_run.proofs.Ran.{written}
use Rattle.bound_run.proofs.over_sinks.check.Goals as goal

pub returns-in-Ok : goal.returns-in-Ok
returns-in-Ok g c = written (request_shown c.args.request) _ _ _ _ _ c.in-Ok.output c.put_line-put.result
    (shown_finish c.finish_put.result)
    c.in-Ok.ensures (rw c.slice.ensures at c.put_line-put.ensures.wrote) c.finish_put.ensures

pub returns-in-Err : goal.returns-in-Err
returns-in-Err g c = c.in-Err.ensures _
