-- The faults of types of a declaration in a scope.
use Rattle.std.specs.Prelude.{List, [], ◌++◌, Some}
use Rattle.layer_ast.specs.Tree.{DeclarationTree, int, rows_cell, rows_array}
use Rattle.fault_mean.specs.Earliest.{unless}
use Rattle.fault_mean.specs.ExpressionFaults.{number_faults}
use Rattle.fault_mean.specs.Faults.{TypeFault, initial}
use Rattle.fault_mean.specs.Scope.{Scope}
use Rattle.fault_mean.specs.Sorts.{expression_at, is_initial}
use Rattle.fault_mean.specs.TypeFaults.{size_type_faults}

-- The faults of a declaration where these names are visible: in the scope of its layer they are its faults.
abbrev pub declaration_faults : Scope → DeclarationTree → List TypeFault
declaration_faults scope (int at name shape (Some e)) =
    number_faults scope e ++ unless (is_initial scope.layer e) (initial (expression_at e))
declaration_faults scope (rows_cell at name capacity items) = size_type_faults scope.layer at capacity
declaration_faults scope (rows_array at name capacity items) = size_type_faults scope.layer at capacity
declaration_faults scope _ = []
