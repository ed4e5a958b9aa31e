use Rattle.std.proofs.Common.{map, take}
use Rattle.std.specs.List.{AllByRecursion}
use Rattle.guard_checks.specs.Places.{EntryWithin}
use Rattle.guard_checks.specs.Trees.{entry_asked}
use Rattle.guard_checks.proofs.needs.all_numbers.Given as goal

abbrev pub invariant-loop-checks : goal.invariant-loop-checks
invariant-loop-checks l = AllByRecursion (EntryWithin l.most) (map entry_asked (take l.checks-index l.all))
