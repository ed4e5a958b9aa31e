use Rattle.std.proofs.Common.{flat_map, map, take}
use Rattle.layer_ast.specs.View.{declaration_tree}
use Rattle.file_expressions.specs.Found.{Finds}
use Rattle.file_scope.specs.Scope.{scope_of}
use Rattle.file_types.specs.Declarations.{declaration_faults}
use Rattle.file_types.proofs.declaration.declarations.Given as goal

abbrev pub invariant-loop-d : goal.invariant-loop-d
invariant-loop-d l = Finds l.initial.found
    (flat_map (declaration_faults (scope_of l.scope)) (map declaration_tree (take l.d-index l.all))) l.found
