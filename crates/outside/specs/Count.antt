-- Counts of failed calls: numbers below 2^64 that never fall.
use Rattle.std.specs.Prelude.{◌≡◌, ℕ, ◌+◌, ◌<◌, ◌⊎◌, ◌==◌, if◌then◌else◌}

-- the last value of a count, at which it stands still
abbrev pub last_count : ℕ
last_count = 0xffff_ffff_ffff_ffff

-- a count after one more failed call
abbrev pub next_count : ℕ → ℕ
next_count count = if count == last_count then count else count + 1

-- the count rose, or it stands at its last value
abbrev pub Rose : ℕ → ℕ → Type 0
Rose old new = (old < new) ⊎ (new ≡ last_count)
