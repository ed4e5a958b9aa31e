-- A layer of the library, judged once for all places that name it.
use Rattle.std.specs.Prelude.{map}
use Rattle.layer_ast.specs.Tree.{LayerTree}
use Rattle.fault_mean.specs.NameFaults.{layer_name_faults}
use Rattle.file_scope.specs.Found.{first_rank}
use Rattle.file_names.specs.Found.{name_shown}
use Rattle.file_names.specs.Gathered.{sizes_of}
use Rattle.file_names.specs.declared.library.Called.{Called}

-- The names that are sizes in it, and the rank of its first fault, once its faults are moved to one place.
abbrev pub called_of : LayerTree → Called
called_of layer = record { sizes = sizes_of layer; rank = first_rank (map name_shown (layer_name_faults layer)) }
