use Rattle.std.proofs.Common.{filter_map, flat_map, map, take}
use Rattle.layer_ast.specs.View.{file_tree, place_tree}
use Rattle.fault_mean.specs.Faults.{name_fault_at}
use Rattle.fault_mean.specs.NameFaults.{layer_name_faults}
use Rattle.fault_mean.specs.Places.{called_at, faults_of_judged}
use Rattle.file_names.specs.Found.{Finds}
use Rattle.file_names.proofs.places.calls.Given as goal

abbrev pub invariant-loop-place : goal.invariant-loop-place
invariant-loop-place l = Finds l.initial.found
    (flat_map (faults_of_judged name_fault_at layer_name_faults)
    (filter_map (called_at (file_tree l.judged.file.now)) (map place_tree (take l.place-index l.places)))) l.found
