-- The first fault of a file: of its names, or else of its types.
use Rattle.std.specs.Prelude.{Option, option_map}
use Rattle.std.specs.Option.{option_or}
use Rattle.layer_ast.specs.Tree.{FileTree}
use Rattle.fault_mean.specs.Faults.{FileFault, of_names, of_types}
use Rattle.fault_mean.specs.NameFaults.{name_fault}
use Rattle.fault_mean.specs.TypeFaults.{type_fault}

-- The first fault of a file, where there is one: types are judged where no name is at fault.
abbrev pub file_fault : FileTree → Option FileFault
file_fault file = option_or (option_map of_names (name_fault file)) (option_map of_types (type_fault file))
