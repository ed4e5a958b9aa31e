use Rattle.std.proofs.Common.{flat_map, map, take}
use Rattle.layer_ast.specs.View.{argument_tree}
use Rattle.fault_mean.specs.ExpressionFaults.{argument_faults}
use Rattle.fault_mean.specs.Kinds.{a_number}
use Rattle.file_expressions.specs.Found.{Finds}
use Rattle.file_scope.specs.Scope.{scope_of}
use Rattle.file_types.proofs.header.each_number.Given as goal

abbrev pub invariant-loop-a : goal.invariant-loop-a
invariant-loop-a l = Finds l.initial.found
    (flat_map (argument_faults (scope_of l.scope) a_number) (map argument_tree (take l.a-index l.all))) l.found
