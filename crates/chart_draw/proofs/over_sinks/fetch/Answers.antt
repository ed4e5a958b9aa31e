use Rattle.chart_draw.specs.Reading.{request_shown}
use Rattle.chart_draw.proofs.Ran.{fetched}
use Rattle.chart_draw.proofs.over_sinks.fetch.Goals as goal

pub returns : goal.returns
returns g c = fetched (request_shown c.args.request) _ _ _ c.in_ok-text.text.items _ c.in_ok-text.ensures
    (rw c.deref.ensures.value at c.chart.ensures)
