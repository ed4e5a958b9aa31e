-- Streams that are handed what was put on a sink.
use Rattle.std.specs.Prelude.{◌≡◌, ℕ, Bool, true, false, List, Option}
use Rattle.std.specs.Io.KnownBytes.{Keeps}
use Rattle.std.specs.declared.io.traits.Write as writes
use Rattle.outside.specs.Count.{Rose}
use Rattle.outside.specs.Stream.{stream_of, IsBeginning}
use Rattle.outside.specs.Tells.{Tells, tells_of}
use Rattle.outside.specs.declared.sink.Sink as outputs
use Rattle.outside.specs.declared.std_sink.StdSink.{StdSink}

-- A sink before and after a run, and what its stream holds in the end.
pub record Stream : Type 0 where
  pub before : Tells
  pub after : Tells
  pub holds : Option (List ℕ)

-- These as one.
abbrev pub stream : Tells → Tells → Option (List ℕ) → Stream
stream before after holds = record { before = before; after = after; holds = holds }

-- A sink that gathers for a stream, before and after a run, and what its stream holds in the end, by what both tell.
abbrev pub over : {W : Type 0} (w : writes.Ghosts W) → outputs.Ghosts (StdSink W w) → (old new : StdSink W w) → Stream
over w sink old new = stream (tells_of sink old) (tells_of sink new) (w.contents (stream_of new))

-- The stream got all that was put, and no fault was counted; or a beginning of it, and the count of faults rose.
abbrev pub HandsOn : Tells → Tells → Option (List ℕ) → Bool → Type 0
HandsOn put after holds true = Keeps put.contents holds × (after.faults ≡ put.faults)
HandsOn put after holds false = Rose put.faults after.faults × IsBeginning holds put.contents
