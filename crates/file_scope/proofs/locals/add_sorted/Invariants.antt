use Rattle.std.proofs.Common.{◌≡◌, ◌++◌, ◌∷◌, take}
use Rattle.fault_mean.specs.Scope as names
use Rattle.file_scope.specs.Scope.{locals_of}
use Rattle.file_scope.proofs.locals.add_sorted.Given as goal

abbrev pub invariant-loop-k : goal.invariant-loop-k
invariant-loop-k l =
    locals_of l.locals.items ≡
    locals_of l.fn.locals.items ++ names.locals_as l.sorts (l.names.first ∷ take l.k l.names.rest.items)
