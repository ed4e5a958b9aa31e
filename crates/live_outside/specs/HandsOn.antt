-- What handing on does to a sink.
use Rattle.std.specs.Prelude.{◌≡◌, Bool, true, false, None}
use Rattle.std.specs.Io.KnownBytes.{Keeps}
use Rattle.outside.specs.Count.{next_count}
use Rattle.outside.specs.Tells.{Tells}

-- All that was put was handed on: what the sink tells stays.
pub record Handed (old new : Tells) : Type 0 where
  pub contents : Keeps old.contents new.contents
  pub failures : new.failures ≡ old.failures
  pub faults : new.faults ≡ old.faults

-- It couldn't be: as at a put that failed before its first byte, of a sink that doesn't tell which puts are to fail.
pub record Stuck (old new : Tells) : Type 0 where
  pub contents : Keeps old.contents new.contents
  pub untold : old.failures ≡ None
  pub still : new.failures ≡ None
  pub counted : new.faults ≡ next_count old.faults

-- What was put so far was handed on, or couldn't be.
abbrev pub HandsOn : Tells → Tells → Bool → Type 0
HandsOn old new true = Handed old new
HandsOn old new false = Stuck old new
