use Rattle.std.proofs.Common.{flat_map, map, take}
use Rattle.layer_ast.specs.View.{argument_tree}
use Rattle.fault_mean.specs.NameFaults.{uses_faults}
use Rattle.fault_mean.specs.Uses as used
use Rattle.file_names.specs.Found.{Finds}
use Rattle.file_scope.specs.Scope.{scope_of}
use Rattle.file_names.proofs.uses.each_argument.Given as goal

abbrev pub invariant-loop-a : goal.invariant-loop-a
invariant-loop-a l = Finds l.initial.found
    (uses_faults (scope_of l.scope) (flat_map used.argument_uses (map argument_tree (take l.a-index l.all)))) l.found
