-- A run over streams, and the handing on of what was put.
use Rattle.std.specs.Prelude.{◌≡◌, ℕ, List, Option, Some, None}
use Rattle.std.specs.Io.KnownBytes.{Appends}
use Rattle.clap.specs.Walk.{Text}
use Rattle.end_mean.specs.Status.{Ended}
use Rattle.outside.specs.Shelf.{Shelved}
use Rattle.outside.specs.Said.{errors}
use Rattle.outside.specs.Tells.{Tells}
use Rattle.program_streams.specs.Streams.{Stream, stream}
use Rattle.job_ends.specs.Comes.{surrounding}
use Rattle.job_ends.specs.Closes.{Closes, end_after_delivery}
use Rattle.hunt_mean.specs.Ends.{Comes, Good, Runs}
use Rattle.hunt_mean.specs.Words.{Request, request_of}

-- A run: what it put on the output, how it ended, and how that was said over the streams. Where that is the run's own
-- end, all that `run` does is done.
pub record RunsThrough (words : List Text) (told : Option Shelved) (reads reads_after : ℕ) (out err : Stream)
    (status : ℕ) : Type 0 where
  pub put : Tells
  pub end : Ended
  pub came : Comes (request_of words) (surrounding told reads reads_after out.before put) end
  pub closes : Closes end (stream put out.after out.holds) err status
  pub runs : end_after_delivery closes.whole end ≡ end →
      Runs words (surrounding told reads reads_after out.before put) (errors err.before closes.closing status)

-- A hunt ended so, and the output's stream gained what it wrote.
pub record DeliversAll (r : Request) (told : Option Shelved) (reads reads_after : ℕ) (out : Stream) (end : Ended) : Type
    0 where
  pub good : Good r told reads reads_after end
  pub gained : Appends out.before.contents out.holds good.text

-- The words ask for a hunt, which ended so, and the output's stream gained what it wrote.
abbrev pub Delivers : Option Request → Option Shelved → (reads reads_after : ℕ) → Stream → Ended → Type 0
Delivers None told reads reads_after out end = ⊥
Delivers (Some r) told reads reads_after out end = DeliversAll r told reads reads_after out end
