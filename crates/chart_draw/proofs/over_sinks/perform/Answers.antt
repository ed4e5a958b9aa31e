use Rattle.std.proofs.Common.{map}
use Rattle.std.specs.String.{string_bytes}
use Rattle.chart_mean.specs.Words.{request_of}
use Rattle.chart_draw.proofs.Ran.{wanted}
use Rattle.chart_draw.proofs.over_sinks.perform.Goals as goal

pub returns-in-Err : goal.returns-in-Err
returns-in-Err g c = wanted (request_of (map string_bytes c.args.words.now)) _ _ _
