-- What may be answered for a file's types.
use Rattle.std.specs.Prelude.{◌≡◌, Some, None, Result, Ok, Err}
use Rattle.layer_ast.specs.Tree.{FileTree}
use Rattle.fault_mean.specs.Faults.{TypeFault, kind, arity, direction, header, initial}
use Rattle.fault_mean.specs.TypeFaults.{type_fault}
use Rattle.file_mean.specs.Stack.{stack_of}
use Rattle.typed_layer.specs.Places.{typed_tree}
use Rattle.typed_layer.specs.declared.typed.Typed.{Typed}
use Rattle.file_types.specs.declared.error.TypeError.{TypeError}
use Rattle.file_types.specs.declared.error.TypeError.TheVariants.{Kind, Arity, Direction, Header, Initial, Memory}

-- A fault of types as an error.
abbrev pub error_of : TypeFault → TypeError
error_of (kind at) = Kind at
error_of (arity at) = Arity at
error_of (direction at) = Direction at
error_of (header at) = Header at
error_of (initial at) = Initial at

-- No fault of types, the first fault of the types, or want of memory.
abbrev pub Judges : FileTree → Result (Unit {0}) TypeError → Type 0
Judges file (Ok _) = type_fault file ≡ None
Judges file (Err (Kind at)) = type_fault file ≡ Some (kind at)
Judges file (Err (Arity at)) = type_fault file ≡ Some (arity at)
Judges file (Err (Direction at)) = type_fault file ≡ Some (direction at)
Judges file (Err (Header at)) = type_fault file ≡ Some (header at)
Judges file (Err (Initial at)) = type_fault file ≡ Some (initial at)
Judges file (Err Memory) = Unit {0}

-- No fault of types and the layers that the file means, the first fault of the types, or want of memory.
abbrev pub Checks : FileTree → Result Typed TypeError → Type 0
Checks file (Ok typed) = (type_fault file ≡ None) × (typed_tree typed ≡ stack_of file)
Checks file (Err (Kind at)) = type_fault file ≡ Some (kind at)
Checks file (Err (Arity at)) = type_fault file ≡ Some (arity at)
Checks file (Err (Direction at)) = type_fault file ≡ Some (direction at)
Checks file (Err (Header at)) = type_fault file ≡ Some (header at)
Checks file (Err (Initial at)) = type_fault file ≡ Some (initial at)
Checks file (Err Memory) = Unit {0}
