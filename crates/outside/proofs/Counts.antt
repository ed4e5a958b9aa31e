-- What a caller knows of a count of failed calls after a series of calls.
use Rattle.std.proofs.Common.{ℕ, ◌≤◌, Result, Ok, Err, inl, inr, arith}
use Rattle.outside.specs.Count.{next_count, Rose}
use Rattle.outside.specs.declared.shelf.Got.{Got}
use Rattle.outside.specs.declared.shelf.Got.TheVariants.{Whole, TooLong}
use Rattle.outside.specs.declared.shelf.ShelfError.{ShelfError}
use Rattle.outside.specs.declared.shelf.ShelfError.TheVariants as shelf
use Rattle.outside.specs.declared.sink.SinkError.{SinkError}
use Rattle.outside.specs.declared.sink.SinkError.TheVariants as sink
use Rattle.outside.specs.Shelf.{faults_after_read}
use Rattle.outside.specs.Sink.{faults_after_put}

-- a count never falls
pub next_count-later : (n : ℕ) → n ≤ next_count n
next_count-later n = grind arith

-- one more failed call: the count rose
pub rose_next : (n : ℕ) → Rose n (next_count n)
rose_next n = grind arith

-- what rose has risen, whatever calls come after
pub rose_then : (a b c : ℕ) → a ≤ b → b ≤ c → Rose a b → Rose a c
rose_then a b c ab bc rose = elim rose [ inl more ↦ inl (omega arith) | inr last ↦ grind arith ]

-- what rises has risen, whatever calls went before
pub then_rose : (a b c : ℕ) → a ≤ b → Rose b c → Rose a c
then_rose a b c ab rose = elim rose [ inl more ↦ inl (omega arith) | inr last ↦ inr last ]

-- a put doesn't lower the count
pub put-later : {T : Type 0} (n : ℕ) (result : Result T SinkError) → n ≤ faults_after_put n result
put-later n (Ok done) = omega arith
put-later n (Err sink.Failed) = next_count-later n
put-later n (Err sink.Memory) = omega arith

-- a read doesn't lower the count
pub read-later : (n : ℕ) (result : Result Got ShelfError) → n ≤ faults_after_read n result
read-later n (Ok Whole) = omega arith
read-later n (Ok TooLong) = omega arith
read-later n (Err shelf.Failed) = next_count-later n
read-later n (Err shelf.Memory) = omega arith
