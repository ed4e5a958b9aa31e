-- A run over streams, and the handing on of what was put.
use Rattle.std.specs.Prelude.{◌≡◌, ℕ, Bool, true, false, List, Option, Some, None}
use Rattle.std.specs.Io.KnownBytes.{Appends}
use Rattle.clap.specs.Walk.{Text}
use Rattle.outside.specs.Shelf.{Shelved}
use Rattle.outside.specs.Said.{errors}
use Rattle.outside.specs.Tells.{Tells}
use Rattle.program_streams.specs.Streams.{HandsOn, Stream}
use Rattle.chart_mean.specs.Words.{Request, request_of}
use Rattle.chart_mean.specs.Ends.{Said}
use Rattle.chart_mean.specs.Runs.{surrounding, Good, Comes, Runs}
use Rattle.chart_mean.specs.declared.types.ChartEnding.{ChartEnding}
use Rattle.chart_mean.specs.declared.types.ChartEnding.TheVariants.{Done, TooLarge, Line, Words, Read, Write, Memory}

-- How a run whose picture was put ended, by whether the stream got all: if it lacks something, that is a fault of
-- writing.
abbrev pub end_after_delivery : Bool → ChartEnding → ChartEnding
end_after_delivery true end = end
end_after_delivery false Done = Write
end_after_delivery false TooLarge = TooLarge
end_after_delivery false (Line number) = Line number
end_after_delivery false Words = Words
end_after_delivery false Read = Read
end_after_delivery false Write = Write
end_after_delivery false Memory = Memory

-- A run: what it put on the output, and how it ended; what was handed on to the output's stream; and what was then said
-- of the end that comes of both, and handed on to the stream of the standard error. Where that end is the run's own
-- end, all that `run` does is done.
pub record RunsThrough (words : List Text) (told : Option Shelved) (reads reads_after : ℕ) (out err : Stream)
    (status : ℕ) : Type 0 where
  pub put : Tells
  pub end : ChartEnding
  pub came : Comes (request_of words) (surrounding told reads reads_after out.before put) end
  pub whole : Bool
  pub handed_on : HandsOn put out.after out.holds whole
  pub closing : Tells
  pub said : Said (end_after_delivery whole end) (errors err.before closing status)
  pub runs : end_after_delivery whole end ≡ end →
      Runs words (surrounding told reads reads_after out.before put) (errors err.before closing status)
  pub heard : Bool
  pub told_on : HandsOn closing err.after err.holds heard

-- A report was read, and the output's stream gained its picture.
pub record DeliversPicture (r : Request) (told : Option Shelved) (reads reads_after : ℕ) (out : Stream) : Type 0 where
  pub good : Good r told reads reads_after
  pub gained : Appends out.before.contents out.holds good.picture

-- The words ask for a picture, and the output's stream gained it.
abbrev pub Delivers : Option Request → Option Shelved → (reads reads_after : ℕ) → Stream → Type 0
Delivers None told reads reads_after out = ⊥
Delivers (Some r) told reads reads_after out = DeliversPicture r told reads reads_after out
