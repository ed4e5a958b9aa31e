use Rattle.std.proofs.Common.{◌≡◌, take}
use Rattle.fault_mean.specs.Scope.{with_locals}
use Rattle.file_scope.specs.Scope.{locals_of, scope_of}
use Rattle.file_scope.proofs.scope.Scope.extend.Given as goal

abbrev pub invariant-loop-local : goal.invariant-loop-local
invariant-loop-local l =
    scope_of l.self ≡ with_locals (scope_of l.initial.self) (locals_of (take l.local-index l.locals))
