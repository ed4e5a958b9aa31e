-- A failed receive, borne or not.
use Rattle.std.specs.Prelude.{◌≡◌, ℕ, ◌+◌, List, [], ◌∷◌, Result, Ok, Err}
use Rattle.outside.specs.declared.sink.SinkError.TheVariants as sink
use Rattle.outside.specs.Lines.{Wrote}
use Rattle.outside.specs.Tells.{Tells}
use Rattle.node_loop.specs.declared.error.NodeError.{NodeError}
use Rattle.node_loop.specs.declared.error.NodeError.TheVariants.{Link, Write, Memory}

-- A failure was borne, and its line put, or that was cut short; or no more may be borne, and nothing was put.
abbrev pub Bears : List ℕ → (before after : ℕ) → Tells → Tells → Result (Unit {0}) NodeError → Type 0
Bears line before after old new (Ok done) = (before ≡ after + 1) × Wrote (line ∷ []) old new (Ok done)
Bears line before after old new (Err Link) = (before ≡ 0) × (new ≡ old)
Bears line before after old new (Err Write) = (before ≡ after + 1) × Wrote (line ∷ []) old new (Err sink.Failed)
Bears line before after old new (Err Memory) = (before ≡ after + 1) × Wrote (line ∷ []) old new (Err sink.Memory)
