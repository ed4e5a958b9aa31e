-- A run over streams, and the handing on of what was put.
use Rattle.std.specs.Prelude.{◌≡◌, ℕ, Bool, true, false, List, Option, Some, None}
use Rattle.std.specs.Io.KnownBytes.{Appends}
use Rattle.clap.specs.Walk.{Text}
use Rattle.end_mean.specs.Status.{write_failed}
use Rattle.outside.specs.Shelf.{Shelved}
use Rattle.outside.specs.Said.{errors}
use Rattle.outside.specs.Tells.{Tells}
use Rattle.program_streams.specs.Streams.{HandsOn, Stream, stream}
use Rattle.job_ends.specs.Closes.{end_after_delivery}
use Rattle.job_ends.specs.Comes.{surrounding}
use Rattle.bound_mean.specs.Ends.{Comes, Good, Runs, SaidSo}
use Rattle.bound_mean.specs.Told.{Finish, ended, stopped}
use Rattle.bound_mean.specs.Words.{Request, request_of}

-- How a check ended, by whether the output's stream got all that was put; where it lacks something, a whole output is a
-- fault of writing.
abbrev pub finish_after_delivery : Bool → Finish → Finish
finish_after_delivery whole (ended end) = ended (end_after_delivery whole end)
finish_after_delivery true stopped = stopped
finish_after_delivery false stopped = ended write_failed

-- What followed when a check that ended so had put all: what was handed on to the output's stream; and what was said
-- then of the end that follows from both, and handed on to the standard error's stream.
pub record Closes (finish : Finish) (out err : Stream) (status : ℕ) : Type 0 where
  pub whole : Bool
  pub handed_on : HandsOn out.before out.after out.holds whole
  pub closing : Tells
  pub said : SaidSo (finish_after_delivery whole finish) (errors err.before closing status)
  pub heard : Bool
  pub told_on : HandsOn closing err.after err.holds heard

-- A run: what it put on the output, how it ended, and how that was said over the streams. Where that is the run's own
-- end, all that `run` does is done.
pub record RunsThrough (words : List Text) (told : Option Shelved) (reads reads_after : ℕ) (out err : Stream)
    (status : ℕ) : Type 0 where
  pub put : Tells
  pub finish : Finish
  pub came : Comes (request_of words) (surrounding told reads reads_after out.before put) finish
  pub closes : Closes finish (stream put out.after out.holds) err status
  pub runs : finish_after_delivery closes.whole finish ≡ finish →
      Runs words (surrounding told reads reads_after out.before put) (errors err.before closes.closing status)

-- A check ended so, and the output's stream gained what it wrote.
pub record DeliversAll (r : Request) (told : Option Shelved) (reads reads_after : ℕ) (out : Stream) (finish : Finish) :
    Type 0 where
  pub good : Good r told reads reads_after finish
  pub gained : Appends out.before.contents out.holds good.text

-- The words ask for a check, which ended so, and the output's stream gained what it wrote.
abbrev pub Delivers : Option Request → Option Shelved → (reads reads_after : ℕ) → Stream → Finish → Type 0
Delivers None told reads reads_after out finish = ⊥
Delivers (Some r) told reads reads_after out finish = DeliversAll r told reads reads_after out finish
