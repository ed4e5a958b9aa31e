-- How many things a list has.
use Rattle.std.specs.Prelude.{ℕ, zero, suc}
use Rattle.file_types.specs.declared.count.Count.{Count}
use Rattle.file_types.specs.declared.count.Count.TheVariants.{Nothing, After}

abbrev pub count_of : Count → ℕ
count_of Nothing = zero
count_of (After k) = suc k
