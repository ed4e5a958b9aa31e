-- What a clock tells.
use Rattle.std.specs.Prelude.{ℕ, List, [], ◌∷◌, ◌/◌, ◌%◌, ◌^◌}

-- the next of the moments to come; past the end of the list it is 0
abbrev pub next_moment : List ℕ → ℕ
next_moment [] = 0
next_moment (moment ∷ later) = moment

-- the moment after `nanos` nanoseconds: whole milliseconds, which begin again at 0 after 2^32 - 1
abbrev pub moment_after : ℕ → ℕ
moment_after nanos = nanos / 1000000 % 2 ^ 32
