-- The faults of what a place gives.
use Rattle.std.specs.Prelude.{List, []}
use Rattle.std.specs.Option.{option_map_or}
use Rattle.layer_ast.specs.Tree.{FileTree, GivenTree, LayerTree, PlaceTree}
use Rattle.fault_mean.specs.Declared.{is_param}
use Rattle.fault_mean.specs.Earliest.{unless}
use Rattle.fault_mean.specs.Faults.{NameFault, unknown, name_fault_at}
use Rattle.fault_mean.specs.Forms.{declared_as}
use Rattle.fault_mean.specs.NameFaults.{layer_name_faults}
use Rattle.fault_mean.specs.Places.{called_at, faults_of_judged}

-- The fault of a value that is given to no param of the layer.
abbrev pub given_faults : LayerTree → GivenTree → List NameFault
given_faults layer g = unless (declared_as is_param layer g.name.word) (unknown g.name.at)

-- The faults of the library's layer that a place names, if it names one, moved to this place.
abbrev pub called_faults : FileTree → PlaceTree → List NameFault
called_faults file place = option_map_or (faults_of_judged name_fault_at layer_name_faults) (called_at file place) []
