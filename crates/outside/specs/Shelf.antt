-- What a shelf of files tells, and what a read of it answers.
use Rattle.std.specs.Prelude.{◌≡◌, ℕ, ◌<◌, ◌≤◌, Bool, false, List, [], ◌∷◌, length, drop, Option, None, Some, Result}
use Rattle.std.specs.Prelude.{Ok, Err, IsSomeAnd, if◌then◌else◌, ⊤}
use Rattle.outside.specs.declared.shelf.Got.{Got}
use Rattle.outside.specs.declared.shelf.Got.TheVariants.{Whole, TooLong}
use Rattle.outside.specs.declared.shelf.ShelfError.{ShelfError}
use Rattle.outside.specs.declared.shelf.ShelfError.TheVariants.{Failed, Memory}
use Rattle.outside.specs.Count.{next_count}

-- what a shelf tells: the bytes of each name that has a file, and, for the reads to come in their order, which of
-- them are to fail; past the end of the list none is
pub record Shelved : Type 0 where
  pub files : List ℕ → Option (List ℕ)
  pub failures : List Bool

-- whether the next read is one of those that are to fail
abbrev pub is_next_to_fail : List Bool → Bool
is_next_to_fail [] = false
is_next_to_fail (fails ∷ later) = fails

-- the file that the next read finds under a name: none where there's no such file or the read is to fail
abbrev pub found_in : Shelved → List ℕ → Option (List ℕ)
found_in shelf name = if is_next_to_fail shelf.failures then None else shelf.files name

-- a shelf after a read: the same files, and one less of the reads to come
abbrev pub after_read : Shelved → Shelved
after_read shelf = record { files = shelf.files; failures = drop 1 shelf.failures }

-- the count of failed reads after a read with this answer
abbrev pub faults_after_read : ℕ → Result Got ShelfError → ℕ
faults_after_read count (Ok Whole) = count
faults_after_read count (Ok TooLong) = count
faults_after_read count (Err Failed) = next_count count
faults_after_read count (Err Memory) = count

-- what stands in the buffer after a read: at most n bytes where the file is whole, and else none
abbrev pub Fills : ℕ → List ℕ → Result Got ShelfError → Type 0
Fills most into (Ok Whole) = length into ≤ most
Fills most into (Ok TooLong) = into ≡ []
Fills most into (Err Failed) = into ≡ []
Fills most into (Err Memory) = into ≡ []

-- which answer a read gives for what it finds: the whole file, a file of more than n bytes, or no file
abbrev pub Answers : Option (List ℕ) → ℕ → List ℕ → Result Got ShelfError → Type 0
Answers found most into (Ok Whole) = found ≡ Some into
Answers found most into (Ok TooLong) = IsSomeAnd found (λ file. most < length file)
Answers found most into (Err Failed) = found ≡ None
Answers found most into (Err Memory) = ⊤
