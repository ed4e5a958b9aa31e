-- What a program says on a sink about why it ended, and its status.
use Rattle.std.specs.Prelude.{◌≡◌, ◌⊎◌, ℕ, List, [], ◌∷◌, drop}
use Rattle.std.specs.Option.{option_map}
use Rattle.outside.specs.Tells.{Tells}
use Rattle.outside.specs.Lines.{Begins, Gains, Fails}
use Rattle.outside.specs.Sink.{AppendsPart}

-- What the standard error told before and after, and the status.
pub record Errors : Type 0 where
  pub before : Tells
  pub after : Tells
  pub status : ℕ

-- What the standard error told before and after, with the status.
abbrev pub errors : Tells → Tells → ℕ → Errors
errors before after status = record {
  before = before;
  after = after;
  status = status;
}

-- A line was said whole, in one put, with its status; or a prefix of it, since the standard error failed; or a prefix
-- of it with status 7, since memory ran out.
pub data SaysLine (line : List ℕ) (status : ℕ) (e : Errors) : Type 0 where
  whole : Gains e.before e.after (line ∷ []) → e.status ≡ status → SaysLine line status e
  failed : Fails e.before e.after (line ∷ []) → e.status ≡ status → SaysLine line status e
  no_memory : Begins e.before e.after line → e.status ≡ 7 → SaysLine line status e

-- A line was put, and the status is its own; or memory ran out in the put: then the status is 7, and the line isn't
-- whole.
pub record EndsSo (line : List ℕ) (status : ℕ) (e : Errors) : Type 0 where
  pub put : e.after.failures ≡ option_map (drop 1) e.before.failures
  pub ended : (e.status ≡ status) ⊎ ((e.status ≡ 7) × AppendsPart e.before.contents e.after.contents line)

-- Nothing was said, and the status is 0.
pub record Silent (e : Errors) : Type 0 where
  pub status : e.status ≡ 0
  pub silent : e.after ≡ e.before
