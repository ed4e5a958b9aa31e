use Rattle.std.proofs.Common.{◌≡◌, take}
use Rattle.fault_mean.specs.Scope as names
use Rattle.file_scope.specs.Scope.{locals_of}
use Rattle.file_scope.proofs.locals.sorted.Given as goal

abbrev pub invariant-loop-name : goal.invariant-loop-name
invariant-loop-name l = locals_of l.all.items ≡ names.locals_as l.sorts (take l.name-index l.names)
