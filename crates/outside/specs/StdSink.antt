-- A sink that gathers bytes before it hands them on to a stream.
use Rattle.std.specs.Prelude.{ℕ, ◌≤◌, List, take, drop, length, Option, Result, Ok, Err}
use Rattle.std.specs.Io.KnownBytes.{Appends, append_known}

-- what handing these bytes on did to the stream: it got all of them, or it got the first n and then failed
abbrev pub HandsOn : {T : Type 0} → Option (List ℕ) → Option (List ℕ) → List ℕ → Result T ℕ → Type 0
HandsOn old new bytes (Ok done) = Appends old new bytes
HandsOn old new bytes (Err n) = Appends old new (take n bytes) × (n ≤ length bytes)

-- the bytes of a stream, and then those held for it that it doesn't have yet
abbrev pub gathered_bytes : Option (List ℕ) → ℕ → List ℕ → Option (List ℕ)
gathered_bytes stream done held = append_known stream (drop done held)
