-- The limits of the sizes in a layer's text: the largest capacity of a queue, and the largest maximum of a loop.
use Rattle.std.specs.Prelude.{ℕ}

-- The largest capacity of a queue, in rows; for an array of queues, that of each.
abbrev pub largest_capacity : ℕ
largest_capacity = 64

-- The largest maximum of a loop: how many times its block may run.
abbrev pub longest_loop : ℕ
longest_loop = 32
