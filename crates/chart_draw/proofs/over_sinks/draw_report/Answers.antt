use Rattle.chart_draw.specs.Reading.{request_shown}
use Rattle.chart_draw.proofs.Ran.{written, stopped}
use Rattle.chart_draw.proofs.over_sinks.draw_report.Goals as goal

pub returns-in-Ok : goal.returns-in-Ok
returns-in-Ok g c =
    written (request_shown c.args.request) _ _ _ c.in-Ok.picture.items _ _ c.write.result c.in-Ok.ensures
    (rw c.deref.ensures.value at c.write.ensures)

pub returns-in-Err : goal.returns-in-Err
returns-in-Err g c = stopped (request_shown c.args.request) _ _ _ _ c.in-Err.ending c.in-Err.ensures
