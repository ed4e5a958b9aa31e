-- How many events a stage took.
use Rattle.std.specs.Prelude.{ℕ, ◌+◌, min}

-- One more, held at 2^64 - 1.
abbrev pub one_more : ℕ → ℕ
one_more n = min (n + 1) 18446744073709551615
