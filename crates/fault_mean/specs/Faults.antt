-- What may be at fault in a file that a text spells.
use Rattle.std.specs.Prelude.{ℕ, List}
use Rattle.layer_words.specs.declared.places.At.{At}
use Rattle.fault_mean.specs.Earliest.{key_at}

-- A fault of names at a place: a name that isn't declared or visible there, a name or a handler that is there already,
-- or one more than a limit allows.
pub data NameFault : Type 0 where
  unknown : (at : At) → NameFault
  twice : (at : At) → NameFault
  too_many : (at : At) → NameFault

-- What faults of names are ordered by.
abbrev pub name_key : NameFault → List ℕ
name_key (unknown at) = key_at at 0
name_key (twice at) = key_at at 1
name_key (too_many at) = key_at at 2

-- A fault of names moved to another place.
abbrev pub name_fault_at : At → NameFault → NameFault
name_fault_at at (unknown _) = unknown at
name_fault_at at (twice _) = twice at
name_fault_at at (too_many _) = too_many at

-- A fault of types at a place: something of another kind than is needed, another number of arguments or names, a header
-- where none may stand, a header that doesn't suit the message, or an initial value that contains something it may not.
pub data TypeFault : Type 0 where
  kind : (at : At) → TypeFault
  arity : (at : At) → TypeFault
  direction : (at : At) → TypeFault
  header : (at : At) → TypeFault
  initial : (at : At) → TypeFault

-- What faults of types are ordered by.
abbrev pub type_key : TypeFault → List ℕ
type_key (kind at) = key_at at 0
type_key (arity at) = key_at at 1
type_key (direction at) = key_at at 2
type_key (header at) = key_at at 3
type_key (initial at) = key_at at 4

-- A fault of types moved to another place.
abbrev pub type_fault_at : At → TypeFault → TypeFault
type_fault_at at (kind _) = kind at
type_fault_at at (arity _) = arity at
type_fault_at at (direction _) = direction at
type_fault_at at (header _) = header at
type_fault_at at (initial _) = initial at

-- A fault of a file.
pub data FileFault : Type 0 where
  of_names : (fault : NameFault) → FileFault
  of_types : (fault : TypeFault) → FileFault
