-- The first fault that is found as a file is judged, part by part.
use Rattle.std.specs.Prelude.{◌≡◌, ℕ, List, map, Option, Some, None, option_map}
use Rattle.layer_words.specs.declared.places.At.{At}
use Rattle.fault_mean.specs.Earliest.{earlier, earliest, key_at}
use Rattle.file_scope.specs.declared.found.Fault.{Fault}
use Rattle.file_scope.specs.declared.found.Found.{Found}

-- What faults are ordered by.
abbrev pub fault_key : Fault → List ℕ
fault_key fault = key_at fault.at fault.rank

-- A fault as it is noted: where faults are moved, at that place.
abbrev pub moved_to : Option At → Fault → Fault
moved_to None fault = fault
moved_to (Some at) fault = record { at = at; rank = fault.rank }

-- What is found once these faults are judged too.
unfoldable pub Finds : Found → List Fault → Found → Type 0
Finds old faults new =
    (new.moved ≡ old.moved)
    × (new.first ≡ earlier fault_key old.first (earliest fault_key (map (moved_to old.moved) faults)))

-- What is found once these faults of any type, each shown as its place and rank, are judged too.
unfoldable pub FindsBy : {F : Type 0} → (F → Fault) → Found → List F → Found → Type 0
FindsBy shown old faults new = Finds old (map shown faults) new

-- A place; faults that are moved to one place are ordered alike at each.
abbrev pub anywhere : At
anywhere = record { line = 1; col = 1 }

-- The rank of the first of some faults, once they are moved to one place.
abbrev pub first_rank : List Fault → Option ℕ
first_rank faults = option_map (λ f. f.rank) (earliest fault_key (map (moved_to (Some anywhere)) faults))
