-- What may be answered for a file.
use Rattle.std.specs.Prelude.{◌≡◌, Some, None, Result, Ok, Err}
use Rattle.layer_ast.specs.Tree.{FileTree}
use Rattle.layer_ast.specs.View.{file_tree}
use Rattle.fault_mean.specs.Faults.{NameFault, unknown, twice, too_many}
use Rattle.fault_mean.specs.NameFaults.{name_fault}
use Rattle.file_names.specs.declared.error.NameError.{NameError}
use Rattle.file_names.specs.declared.error.NameError.TheVariants.{Unknown, Twice, TooMany, Memory}
use Rattle.file_names.specs.declared.resolved.Resolved.{Resolved}

-- The tree of a resolved file.
abbrev pub resolved_tree : Resolved → FileTree
resolved_tree r = file_tree r.file

-- A fault of names as an error.
abbrev pub error_of : NameFault → NameError
error_of (unknown at) = Unknown at
error_of (twice at) = Twice at
error_of (too_many at) = TooMany at

-- This very file where no name is at fault, the first fault of its names, or want of memory.
abbrev pub Resolves : FileTree → Result Resolved NameError → Type 0
Resolves file (Ok r) = (resolved_tree r ≡ file) × (name_fault file ≡ None)
Resolves file (Err (Unknown at)) = name_fault file ≡ Some (unknown at)
Resolves file (Err (Twice at)) = name_fault file ≡ Some (twice at)
Resolves file (Err (TooMany at)) = name_fault file ≡ Some (too_many at)
Resolves file (Err Memory) = Unit {0}
