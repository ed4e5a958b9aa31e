-- The trees of what is asked of the entries of a stack.
use Rattle.std.specs.Prelude.{List, ◌∷◌, map, Option, option_map}
use Rattle.shape_core.specs.Cases.{reason_tree}
use Rattle.trace_core.specs.Bypasses.{first_tree, second_tree}
use Rattle.trace_core.specs.declared.bypass.Cases.{Cases}
use Rattle.miss_laws.specs.Asked as mean
use Rattle.miss_laws.specs.Asked.{AllAsked, asked_of}
use Rattle.guard_checks.specs.declared.asked.Asked.{Asked}
use Rattle.guard_checks.specs.declared.asked.Asked.TheVariants.{Passes, Nothing}
use Rattle.guard_checks.specs.declared.cases.CaseChecks.{CaseChecks}

abbrev pub asked_tree : Asked → mean.Asked
asked_tree (Passes checks) = mean.checks checks
asked_tree (Nothing reason) = mean.nothing (reason_tree reason)

-- What is asked of an entry in both cases.
pub record EntryAsked : Type 0 where
  pub first : mean.Asked
  pub second : Option mean.Asked

abbrev pub entry_asked : CaseChecks → EntryAsked
entry_asked c = record { first = asked_tree c.first; second = option_map asked_tree c.second }

-- What is to be asked of what is made of an entry.
abbrev pub asked_for : Cases → EntryAsked
asked_for c = record { first = asked_of (first_tree c); second = option_map asked_of (second_tree c) }

abbrev pub in_first : EntryAsked → mean.Asked
in_first e = e.first

abbrev pub in_second : EntryAsked → Option mean.Asked
in_second e = e.second

-- That of all entries in their order.
abbrev pub of_entries : List EntryAsked → AllAsked
of_entries all = record { made = map in_first all; second = map in_second all }

abbrev pub stack_tree : (cast send : CaseChecks) → List CaseChecks → AllAsked
stack_tree cast send plans = of_entries (entry_asked cast ∷ entry_asked send ∷ map entry_asked plans)
