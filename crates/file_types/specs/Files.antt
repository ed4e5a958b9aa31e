-- The layers of the library that places name, and what is wrong with a file's types.
use Rattle.std.specs.Prelude.{ℕ, List, [], map, ◌==◌, if◌then◌else◌, Option}
use Rattle.std.specs.Option.{option_map_or}
use Rattle.layer_ast.specs.Tree.{FileTree, LayerTree, PlaceTree}
use Rattle.fault_mean.specs.Faults.{TypeFault, kind, arity, direction, header, initial, type_fault_at}
use Rattle.fault_mean.specs.Places.{called_at, faults_of_judged}
use Rattle.fault_mean.specs.TypeFaults.{layer_type_faults}
use Rattle.file_scope.specs.declared.found.Fault.{Fault}
use Rattle.file_scope.specs.Found.{first_rank}
use Rattle.file_expressions.specs.Found.{type_shown}

-- The rank of the first fault of a layer, once its faults are moved to one place.
abbrev pub rank_of : LayerTree → Option ℕ
rank_of layer = first_rank (map type_shown (layer_type_faults layer))

-- The faults of the library's layer that a place names, if it names one, at this place.
abbrev pub called_faults : FileTree → PlaceTree → List TypeFault
called_faults file place = option_map_or (faults_of_judged type_fault_at layer_type_faults) (called_at file place) []

-- The fault of types that is shown as a place and a rank.
abbrev pub shown_type_fault : Fault → TypeFault
shown_type_fault fault = if fault.rank == 0 then kind fault.at
    else if fault.rank == 1 then arity fault.at
    else if fault.rank == 2 then direction fault.at
    else if fault.rank == 3 then header fault.at
    else initial fault.at
