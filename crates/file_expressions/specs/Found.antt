-- The first fault of types that is found as a file is judged, part by part.
use Rattle.std.specs.Prelude.{List}
use Rattle.layer_words.specs.declared.places.At.{At}
use Rattle.fault_mean.specs.Faults as fault
use Rattle.fault_mean.specs.Faults.{TypeFault}
use Rattle.file_scope.specs.declared.found.Fault.{Fault}
use Rattle.file_scope.specs.declared.found.Found.{Found}
use Rattle.file_scope.specs.Found.{FindsBy}
use Rattle.file_expressions.specs.declared.found.Cause.{Cause}
use Rattle.file_expressions.specs.declared.found.Cause.TheVariants.{Kind, Arity, Direction, Header, Initial}

-- The fault of a cause at a place.
abbrev pub fault_at : Cause → At → TypeFault
fault_at Kind at = fault.kind at
fault_at Arity at = fault.arity at
fault_at Direction at = fault.direction at
fault_at Header at = fault.header at
fault_at Initial at = fault.initial at

-- The place of a fault, and its rank among those of one place.
abbrev pub type_shown : TypeFault → Fault
type_shown (fault.kind at) = record { at = at; rank = 0 }
type_shown (fault.arity at) = record { at = at; rank = 1 }
type_shown (fault.direction at) = record { at = at; rank = 2 }
type_shown (fault.header at) = record { at = at; rank = 3 }
type_shown (fault.initial at) = record { at = at; rank = 4 }

-- What is found once these faults are judged too.
abbrev pub Finds : Found → List TypeFault → Found → Type 0
Finds = FindsBy type_shown
