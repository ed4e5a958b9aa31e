use Rattle.std.proofs.Common.{◌≡◌, flat_map, map, take}
use Rattle.layer_ast.specs.View.{layer_tree}
use Rattle.fault_mean.specs.NameFaults.{layer_name_faults}
use Rattle.file_names.specs.Found.{Finds}
use Rattle.file_names.specs.Gathered.{sizes_of}
use Rattle.file_names.proofs.judged.written.Given as goal

abbrev pub invariant-loop-k : goal.invariant-loop-k
invariant-loop-k l =
    Finds l.initial.found (flat_map layer_name_faults (map layer_tree (take l.k l.layers))) l.found
    × (l.all.items ≡ map sizes_of (map layer_tree (take l.k l.layers)))
