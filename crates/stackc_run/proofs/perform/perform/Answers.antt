use Rattle.std.proofs.Common.{map}
use Rattle.std.specs.String.{string_bytes}
use Rattle.job_mean.specs.Job.{job_of_words}
use Rattle.stackc_run.proofs.Performed.{wanted}
use Rattle.stackc_run.proofs.perform.perform.Goals as goal

pub returns-in-Err : goal.returns-in-Err
returns-in-Err g c = wanted (job_of_words (map string_bytes c.args.words.now)) _ _ _ _ _ _ _
