use Rattle.std.proofs.Common.{◌≡◌, map, take}
use Rattle.guard_checks.specs.Trees.{asked_for, entry_asked}
use Rattle.guard_checks.proofs.cases.all_checks.Given as goal

abbrev pub invariant-loop-cases : goal.invariant-loop-cases
invariant-loop-cases l = map entry_asked l.checks.items ≡ map asked_for (take l.cases-index l.all)
