use Rattle.std.proofs.Common.{flat_map, map, take}
use Rattle.layer_ast.specs.View.{given_tree}
use Rattle.file_scope.specs.Scope.{scope_of}
use Rattle.file_names.specs.Found.{Finds}
use Rattle.file_names.specs.Places.{given_faults}
use Rattle.file_names.proofs.place.are_params.Given as goal

abbrev pub invariant-loop-one : goal.invariant-loop-one
invariant-loop-one l = Finds l.initial.found
    (flat_map (given_faults (scope_of l.scope).layer) (map given_tree (take l.one-index l.given))) l.found
