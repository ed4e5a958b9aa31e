-- Places for the numbers that tests make.
use Rattle.std.specs.Prelude.{ℕ, ◌≤◌, List, map, Option, Some, None}
use Rattle.std.specs.List.{AllByRecursion}
use Rattle.code_tests.specs.Registers.{prepared_numbers}
use Rattle.miss_laws.specs.Asked.{Asked, checks, nothing}
use Rattle.guard_checks.specs.Trees.{EntryAsked, entry_asked}
use Rattle.guard_checks.specs.declared.cases.CaseChecks.{CaseChecks}

-- The tests make at most `most` numbers.
abbrev pub IsWithin : ℕ → Asked → Type 0
IsWithin most (checks c) = prepared_numbers c.tests ≤ most
IsWithin most (nothing reason) = Unit {0}

abbrev pub IfWithin : ℕ → Option Asked → Type 0
IfWithin most (Some asked) = IsWithin most asked
IfWithin most None = Unit {0}

-- So it is of an entry in both cases, and of all entries.
pub record EntryWithin (most : ℕ) (e : EntryAsked) : Type 0 where
  pub first : IsWithin most e.first
  pub second : IfWithin most e.second

pub record AreWithin (most : ℕ) (cast send : CaseChecks) (plans : List CaseChecks) : Type 0 where
  pub for_cast : EntryWithin most (entry_asked cast)
  pub for_send : EntryWithin most (entry_asked send)
  pub for_plans : AllByRecursion (EntryWithin most) (map entry_asked plans)
