-- The first fault of names that is found as a file is judged, part by part.
use Rattle.std.specs.Prelude.{◌==◌, if◌then◌else◌, List}
use Rattle.layer_words.specs.declared.places.At.{At}
use Rattle.fault_mean.specs.Faults.{NameFault, unknown, twice, too_many}
use Rattle.file_scope.specs.declared.found.Fault.{Fault}
use Rattle.file_scope.specs.declared.found.Found.{Found}
use Rattle.file_scope.specs.Found.{FindsBy}
use Rattle.file_names.specs.declared.found.Cause.{Cause}
use Rattle.file_names.specs.declared.found.Cause.TheVariants.{Unknown, Twice, TooMany}

-- The fault of a cause at a place.
abbrev pub fault_at : Cause → At → NameFault
fault_at Unknown at = unknown at
fault_at Twice at = twice at
fault_at TooMany at = too_many at

-- The place of a fault, and its rank among those of one place.
abbrev pub name_shown : NameFault → Fault
name_shown (unknown at) = record { at = at; rank = 0 }
name_shown (twice at) = record { at = at; rank = 1 }
name_shown (too_many at) = record { at = at; rank = 2 }

-- What is found once these faults are judged too.
abbrev pub Finds : Found → List NameFault → Found → Type 0
Finds = FindsBy name_shown

-- The fault of names that is shown as a place and a rank.
abbrev pub shown_name_fault : Fault → NameFault
shown_name_fault fault = if fault.rank == 0 then unknown fault.at else if fault.rank ==
    1 then twice fault.at else too_many fault.at
