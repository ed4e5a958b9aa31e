use Rattle.std.proofs.Common.{map}
use Rattle.std.specs.String.{string_bytes}
use Rattle.bound_mean.specs.Words.{request_of}
use Rattle.bound_run.proofs.Ran.{wanted}
use Rattle.bound_run.proofs.over_sinks.perform.Goals as goal

pub returns-in-Err : goal.returns-in-Err
returns-in-Err g c = wanted (request_of (map string_bytes c.args.words.now)) _ _ _
