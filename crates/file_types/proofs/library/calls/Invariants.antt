use Rattle.std.proofs.Common.{filter_map, flat_map, map, take}
use Rattle.layer_ast.specs.View.{file_tree, place_tree}
use Rattle.fault_mean.specs.Faults.{type_fault_at}
use Rattle.fault_mean.specs.Places.{called_at, faults_of_judged}
use Rattle.fault_mean.specs.TypeFaults.{layer_type_faults}
use Rattle.file_expressions.specs.Found.{Finds}
use Rattle.file_types.proofs.library.calls.Given as goal

abbrev pub invariant-loop-place : goal.invariant-loop-place
invariant-loop-place l = Finds l.initial.found
    (flat_map (faults_of_judged type_fault_at layer_type_faults)
    (filter_map (called_at (file_tree l.library.file.now)) (map place_tree (take l.place-index l.places)))) l.found
