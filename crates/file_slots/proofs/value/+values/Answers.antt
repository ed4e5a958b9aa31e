use Rattle.std.proofs.Common.{rules}
use Rattle.file_slots.proofs.value.+values.Goals as goal

pub number-returns-in_ok-boxed-in-Some : goal.number-returns-in_ok-boxed-in-Some
number-returns-in_ok-boxed-in-Some t c = rw (c.in-Named.is, c.in-Some.is) (search rules)
