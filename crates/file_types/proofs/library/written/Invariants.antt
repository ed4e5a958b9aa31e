use Rattle.std.proofs.Common.{flat_map, map, take}
use Rattle.layer_ast.specs.View.{layer_tree}
use Rattle.fault_mean.specs.TypeFaults.{layer_type_faults}
use Rattle.file_expressions.specs.Found.{Finds}
use Rattle.file_types.proofs.library.written.Given as goal

abbrev pub invariant-loop-k : goal.invariant-loop-k
invariant-loop-k l = Finds l.initial.found (flat_map layer_type_faults (map layer_tree (take l.k l.layers))) l.found
