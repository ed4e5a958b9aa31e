use Rattle.std.proofs.Common.{flat_map, map, take}
use Rattle.layer_ast.specs.View.{file_tree, place_tree}
use Rattle.fault_mean.specs.NameFaults.{place_faults}
use Rattle.file_names.specs.Found.{Finds}
use Rattle.file_names.proofs.places.places.Given as goal

abbrev pub invariant-loop-one : goal.invariant-loop-one
invariant-loop-one l = Finds l.initial.found
    (flat_map (place_faults (file_tree l.judged.file.now)) (map place_tree (take l.one-index l.all))) l.found
