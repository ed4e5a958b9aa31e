-- The first fault of a file's names as an error.
use Rattle.std.proofs.Common.{◌≡◌, Some, Err, sym, subst}
use Rattle.layer_ast.specs.Tree.{FileTree}
use Rattle.fault_mean.specs.Faults.{NameFault, unknown, twice, too_many}
use Rattle.fault_mean.specs.NameFaults.{name_fault}
use Rattle.file_names.specs.Answer.{Resolves, error_of}
use Rattle.file_names.specs.declared.error.NameError.{NameError}

pub refused : (file : FileTree) (fault : NameFault) (error : NameError) → Some fault ≡ name_fault file →
    error ≡ error_of fault →
    Resolves file (Err error)
refused file fault error first is =
    subst (λ e. Resolves file (Err e)) (sym is) (go fault (sym first)) where
      go : (f : NameFault) → name_fault file ≡ Some f → Resolves file (Err (error_of f))
      go (unknown at) e = e
      go (twice at) e = e
      go (too_many at) e = e
