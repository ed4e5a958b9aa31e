-- The first fault of a file's types as an error.
use Rattle.std.proofs.Common.{◌≡◌, Some, Err, sym, subst}
use Rattle.layer_ast.specs.Tree.{FileTree}
use Rattle.fault_mean.specs.Faults.{TypeFault, kind, arity, direction, header, initial}
use Rattle.fault_mean.specs.TypeFaults.{type_fault}
use Rattle.file_types.specs.Answer.{Judges, error_of}
use Rattle.file_types.specs.declared.error.TypeError.{TypeError}

pub refused : (file : FileTree) (fault : TypeFault) (error : TypeError) → Some fault ≡ type_fault file →
    error ≡ error_of fault →
    Judges file (Err error)
refused file fault error first is =
    subst (λ e. Judges file (Err e)) (sym is) (go fault (sym first)) where
      go : (f : TypeFault) → type_fault file ≡ Some f → Judges file (Err (error_of f))
      go (kind at) e = e
      go (arity at) e = e
      go (direction at) e = e
      go (header at) e = e
      go (initial at) e = e
