use Rattle.std.proofs.Common.{map}
use Rattle.std.specs.String.{string_bytes}
use Rattle.chart_mean.specs.Words.{request_of}
use Rattle.chart_mean.proofs.Exact.{exact}
use Rattle.chart_draw.proofs.over_sinks.run.Goals as goal

pub returns : goal.returns
returns g c = record {
  end = c.perform-ending.result;
  came = c.perform-ending.ensures;
  said = c.say.ensures;
  exact = exact (request_of (map string_bytes c.args.words.now)) _ _ c.perform-ending.result c.perform-ending.ensures
      c.say.ensures;
}
