-- Streams: what a read of one to its end, up to a number of bytes, answers; and the stream that a sink writes to.
use Rattle.std.specs.Prelude.{◌≡◌, ℕ, ◌<◌, List, length, Option, Result, Ok, Err, ⊤}
use Rattle.std.specs.Io.KnownBytes.{Keeps, append_known}
use Rattle.outside.specs.declared.shelf.Got.{Got}
use Rattle.outside.specs.declared.shelf.Got.TheVariants.{Whole, TooLong}
use Rattle.std.specs.declared.io.traits.Write.{Ghosts}
use Rattle.outside.specs.declared.std_sink.StdSink.{StdSink}

-- what a read of a stream with these bytes answers: all of them, or that there are more than `most`
abbrev pub ReadsStream : {E : Type 0} → ℕ → List ℕ → List ℕ → Result Got E → Type 0
ReadsStream most bytes into (Ok Whole) = into ≡ bytes
ReadsStream most bytes into (Ok TooLong) = most < length bytes
ReadsStream most bytes into (Err e) = ⊤

-- the stream that a sink hands its bytes on to
abbrev pub stream_of : {W : Type 0} {g : Ghosts W} → StdSink W g → W
stream_of sink = sink.stream

-- what a stream holds is a beginning of what was put for it: with the bytes that it lacks it's the whole
pub record IsBeginning (holds put : Option (List ℕ)) : Type 0 where
  pub lacks : List ℕ
  pub whole : Keeps put (append_known holds lacks)
