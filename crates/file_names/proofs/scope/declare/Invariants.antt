use Rattle.std.proofs.Common.{take}
use Rattle.file_names.specs.Scope.{Declares}
use Rattle.file_scope.specs.Scope.{locals_of, scope_of}
use Rattle.file_names.proofs.scope.declare.Given as goal

abbrev pub invariant-loop-local : goal.invariant-loop-local
invariant-loop-local l =
    Declares (scope_of l.initial.scope) l.initial.found (locals_of (take l.local-index l.locals)) l.found
    (scope_of l.scope)
